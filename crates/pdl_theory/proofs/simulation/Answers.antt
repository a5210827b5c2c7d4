-- proofs/simulation/Answers.antt
use Rattle.pdl_theory.proofs.StatedTheorems.{whole_same}
use Rattle.pdl_theory.proofs.simulation.Goals as goal

pub returns : goal.returns
returns c = whole_same
