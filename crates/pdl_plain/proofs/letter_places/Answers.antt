use Rattle.pdl_plain.proofs.LetterBits.{has_each}
use Rattle.pdl_plain.proofs.letter_places.Goals as goal

pub returns : goal.returns
returns c = record { each = has_each }
