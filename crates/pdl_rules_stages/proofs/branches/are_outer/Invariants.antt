use Rattle.std.proofs.Common.{◌≡◌, map, drop}
use Rattle.pdl_rules.specs.Stages as spec
use Rattle.pdl_paths.specs.Guards.{branch_view}
use Rattle.pdl_rules_stages.proofs.branches.are_outer.Given as goal

-- those so far are the same
abbrev pub invariant-loop-k : goal.invariant-loop-k
invariant-loop-k l =
    spec.are_outer (drop l.k (map branch_view l.outer)) (drop l.k (map branch_view l.branches))
    ≡ spec.are_outer (map branch_view l.outer) (map branch_view l.branches)
