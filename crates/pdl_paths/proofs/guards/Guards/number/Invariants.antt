use Rattle.std.proofs.Common.{◌≡◌, ◌+◌, ◌≤◌, map, drop}
use Rattle.pdl_paths.specs.Guards.{guard_view}
use Rattle.pdl_paths.specs.KeptGuards.{kept_view}
use Rattle.pdl_paths.specs.Masks.{number_of}
use Rattle.pdl_paths.proofs.guards.Guards.number.Given as goal

-- it is none of those so far
abbrev pub invariant-loop-kept : goal.invariant-loop-kept
invariant-loop-kept l =
    (l.number + number_of (guard_view l.guard) (map kept_view (drop l.kept-index l.kept-items)) ≡ number_of (guard_view l.guard) (map kept_view l.kept-items))
    × (l.number ≤ l.kept-index)
