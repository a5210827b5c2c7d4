use Rattle.std.proofs.Common.{◌≡◌, [], map, take}
use Rattle.std.specs.Prelude.{fold}
use Rattle.pdl_rules.specs.Places.{with_guard}
use Rattle.pdl_paths.specs.Actions.{place_view}
use Rattle.pdl_paths.proofs.guards.Guards.of.Given as goal

-- those of the places so far are there
abbrev pub invariant-loop-place : goal.invariant-loop-place
invariant-loop-place l = l.guards ≡ fold with_guard [] (map place_view (take l.place-index l.places))
