use Rattle.std.proofs.Common.{◌≡◌, map, drop}
use Rattle.std.specs.List.{list_any}
use Rattle.pdl_rules.specs.Forks.{breaks_fetch_order}
use Rattle.pdl_paths.specs.Actions.{place_view}
use Rattle.pdl_rules_judge.proofs.fork_rules.is_fetched.Given as goal

-- none so far reads it
abbrev pub invariant-loop-place : goal.invariant-loop-place
invariant-loop-place l =
    list_any (breaks_fetch_order l.memory) (map place_view (drop l.place-index l.before)) ≡ list_any (breaks_fetch_order l.memory) (map place_view l.before)
