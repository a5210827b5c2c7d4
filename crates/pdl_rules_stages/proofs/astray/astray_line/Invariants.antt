use Rattle.std.proofs.Common.{◌≡◌, ℕ, ◌<◌, false, map}
use Rattle.pdl_paths.specs.Actions.{place_view}
use Rattle.pdl_rules_on_paths.specs.Lowest.{breaks_at}
use Rattle.pdl_rules_stages.specs.Astray.{is_astray}
use Rattle.pdl_rules_stages.proofs.astray.astray_line.Given as goal

-- none of those so far breaks the rule
abbrev pub invariant-loop-k : goal.invariant-loop-k
invariant-loop-k l = (j : ℕ) → j < l.k → breaks_at (is_astray l.kinds) (map place_view l.places) j ≡ false
