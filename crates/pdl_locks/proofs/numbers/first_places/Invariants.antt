use Rattle.std.proofs.Common.{◌≡◌, map, take}
use Rattle.pdl_paths.specs.Actions.{place_view}
use Rattle.pdl_locks.specs.Numbers.{number_at}
use Rattle.pdl_locks.proofs.numbers.first_places.Given as goal

-- the numbers of those so far
abbrev pub invariant-loop-place : goal.invariant-loop-place
invariant-loop-place l = l.first.items ≡ map (number_at l.keys (map place_view l.places)) (map place_view (take l.place-index l.places))
