use Rattle.std.proofs.Common.{◌≡◌, ◌+◌, ◌≤◌, map, drop}
use Rattle.pdl_syntax_tree.specs.View.{location_view}
use Rattle.pdl_paths.specs.Actions.{place_view}
use Rattle.pdl_locks.specs.Numbers.{first_place}
use Rattle.pdl_locks.proofs.numbers.first_place.Given as goal

-- it stands at none of those so far
abbrev pub invariant-loop-place : goal.invariant-loop-place
invariant-loop-place l =
    (l.number + first_place l.keys (location_view l.at) (map place_view (drop l.place-index l.places))
    ≡ first_place l.keys (location_view l.at) (map place_view l.places))
    × (l.number ≤ l.place-index)
