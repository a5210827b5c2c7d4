use Rattle.std.proofs.Common.{◌≡◌, ◌≤◌, map, drop}
use Rattle.pdl_rules.specs.Stages as spec
use Rattle.pdl_paths.specs.Actions.{place_view}
use Rattle.pdl_paths.specs.Guards.{branch_view}
use Rattle.pdl_rules_stages.proofs.stages.stage_in.Given as goal

-- the places to come go on from here
abbrev pub invariant-loop-place : goal.invariant-loop-place
invariant-loop-place l =
    (spec.stage_from l.begun l.found (map branch_view l.branches) (map place_view (drop l.place-index l.before))
    ≡ spec.stage_in (map place_view l.before) (map branch_view l.branches))
    × (l.begun ≤ l.place-index)
