use Rattle.std.proofs.Common.{◌≡◌, map, take, unwrap_or}
use Rattle.pdl_image.proofs.read.to_image.Given as goal

abbrev pub invariant-loop-row : goal.invariant-loop-row
invariant-loop-row l = l.words ≡ map (λ row. map (λ o. unwrap_or o 0) row) (take l.row-index l.slots)
