use Rattle.std.proofs.Common.{◌≡◌, map, drop}
use Rattle.std.specs.List.{list_any}
use Rattle.pdl_syntax_tree.specs.View.{literal_view}
use Rattle.pdl_rules.specs.Limits.{is_wrong_literal}
use Rattle.pdl_rules_judge.proofs.literals.has_wrong_literal.Given as goal

-- those so far give nothing
abbrev pub invariant-loop-literal : goal.invariant-loop-literal
invariant-loop-literal l =
    list_any is_wrong_literal (map literal_view (drop l.literal-index l.literals)) ≡ list_any is_wrong_literal (map literal_view l.literals)
