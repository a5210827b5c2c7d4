use Rattle.std.proofs.Common.{◌≡◌, ◌-◌, [], length, drop}
use Rattle.pdl_syntax_tree.specs.View.{stmts_view}
use Rattle.pdl_rules.specs.Places.{statements}
use Rattle.pdl_rules_judge.proofs.inside.+places.Given as goal

-- what the rest leaves is what all leave
abbrev pub invariant-left_after-loop-s : goal.invariant-left_after-loop-s
invariant-left_after-loop-s l =
    l.left - length (statements [] (stmts_view (drop l.s-index l.ss))) ≡ l.fn.left - length (statements [] (stmts_view l.ss))
