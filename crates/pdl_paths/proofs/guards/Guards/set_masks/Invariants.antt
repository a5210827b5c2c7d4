use Rattle.std.proofs.Common.{◌≡◌, ℕ, ◌<◌, map, slice_index_or}
use Rattle.pdl_paths.specs.declared.place.Place.{Place}
use Rattle.pdl_paths.specs.Actions.{place_view}
use Rattle.pdl_paths.specs.Masks.{IsMasked}
use Rattle.pdl_paths.proofs.guards.Guards.set_masks.Given as goal

-- the places are the same, and those so far have their masks
abbrev pub invariant-loop-place : goal.invariant-loop-place
invariant-loop-place l =
    (map place_view l.places ≡ map place_view l.initial.places)
    × ((k : ℕ) (d : Place) → k < l.place-index → IsMasked l.self (slice_index_or l.places k d))
