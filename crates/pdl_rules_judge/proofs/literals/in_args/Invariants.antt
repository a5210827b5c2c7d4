use Rattle.std.proofs.Common.{◌≡◌, map, drop}
use Rattle.std.specs.List.{list_any}
use Rattle.pdl_syntax_tree.specs.View.{expr_view}
use Rattle.pdl_rules.specs.Parts.{some_part, of_constant}
use Rattle.pdl_rules.specs.Limits.{is_wrong_literal}
use Rattle.pdl_rules_judge.proofs.literals.in_args.Given as goal

-- those so far give nothing
abbrev pub invariant-loop-e : goal.invariant-loop-e
invariant-loop-e l =
    list_any (some_part (of_constant is_wrong_literal)) (map expr_view (drop l.e-index l.args))
    ≡ list_any (some_part (of_constant is_wrong_literal)) (map expr_view l.args)
