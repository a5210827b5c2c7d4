use Rattle.std.proofs.Common.{◌≡◌, true, List, map, take}
use Rattle.std.specs.List.{list_all}
use Rattle.pdl_rules.specs.Places.{Guard, is_taken}
use Rattle.pdl_paths.specs.Guards.{branch_view}
use Rattle.pdl_rules_names.proofs.branches.is_prefix.Given as goal

-- those so far are the same
abbrev pub invariant-loop-i : goal.invariant-loop-i
invariant-loop-i l =
    (path : List Guard) → list_all (is_taken path) (map branch_view l.inner) ≡ true → list_all (is_taken path) (map branch_view (take l.i l.outer)) ≡ true
