use Rattle.std.proofs.Common.{◌≡◌, ◌<◌, ℕ, false, map, take}
use Rattle.pdl_paths.specs.Actions.{place_view}
use Rattle.pdl_rules_on_paths.specs.Lowest.{breaks_at}
use Rattle.pdl_rules_on_texts.proofs.lowest.lowest_place.Given as goal

-- the state is after those so far, and none of them breaks the rule
abbrev pub invariant-loop-k : goal.invariant-loop-k
invariant-loop-k g l =
    (g.R.TextRule.stands l.rule (take l.k (map place_view l.places)) l.state)
    × ((j : ℕ) → j < l.k → breaks_at (g.R.TextRule.breaks_on l.rule) (map place_view l.places) j ≡ false)
