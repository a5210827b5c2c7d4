use Rattle.std.proofs.Common.{◌≡◌, ◌+◌, ◌≤◌, map, drop}
use Rattle.pdl_rules.specs.Stages.{stage_after}
use Rattle.pdl_paths.specs.Actions.{place_view}
use Rattle.pdl_rules_stages.proofs.along.begun_before.Given as goal

-- the separators so far and those to come are all
abbrev pub invariant-loop-place : goal.invariant-loop-place
invariant-loop-place l =
    (l.begun + stage_after (map place_view (drop l.place-index l.before)) ≡ stage_after (map place_view l.before)) × (l.begun ≤ l.place-index)
