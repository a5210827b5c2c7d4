-- proofs/whole_language/Answers.antt
use Rattle.pdl_theory.proofs.StatedTheorems.{whole_refines, whole_advances, whole_paces}
use Rattle.pdl_theory.proofs.whole_language.Goals as goal

pub returns : goal.returns
returns c = record { refines = whole_refines; oldest_moves = whole_advances; keeps_pace = whole_paces }
