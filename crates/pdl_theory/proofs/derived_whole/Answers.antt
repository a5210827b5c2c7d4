-- proofs/derived_whole/Answers.antt
use Rattle.pdl_theory_turns.proofs.CourseOf.{course}
use Rattle.pdl_theory.proofs.Follows.{refines, advances}
use Rattle.pdl_theory.proofs.Rates.{keeps_pace}
use Rattle.pdl_theory.proofs.derived_whole.Goals as goal

pub returns : goal.returns
returns c = record { refines = λ p s. refines p (course p s); oldest_moves = λ p s. advances p (course p s); keeps_pace = keeps_pace }
