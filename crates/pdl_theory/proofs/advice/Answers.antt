-- proofs/advice/Answers.antt
use Rattle.pdl_theory.proofs.StatedTheorems.{whole_idle}
use Rattle.pdl_theory.proofs.advice.Goals as goal

pub returns : goal.returns
returns c = whole_idle
