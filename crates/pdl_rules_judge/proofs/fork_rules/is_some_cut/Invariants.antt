use Rattle.std.proofs.Common.{◌≡◌, map, drop}
use Rattle.std.specs.List.{list_any}
use Rattle.pdl_rules.specs.Places.{Branch}
use Rattle.pdl_rules.specs.Forks.{holds_separator}
use Rattle.pdl_paths.specs.Guards.{branch_view}
use Rattle.pdl_rules_judge.proofs.fork_rules.is_some_cut.Given as goal

-- none so far holds one
abbrev pub invariant-loop-branch : goal.invariant-loop-branch
invariant-loop-branch l =
    list_any (λ (b : Branch). holds_separator b.inside) (map branch_view (drop l.branch-index l.branches))
    ≡ list_any (λ (b : Branch). holds_separator b.inside) (map branch_view l.branches)
