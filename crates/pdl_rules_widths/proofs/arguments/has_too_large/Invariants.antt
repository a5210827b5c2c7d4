use Rattle.std.proofs.Common.{◌≡◌, map, drop}
use Rattle.std.specs.List.{list_any}
use Rattle.pdl_syntax_tree.specs.View.{literal_view}
use Rattle.pdl_rules.specs.Widths.{is_too_large}
use Rattle.pdl_rules_widths.proofs.arguments.has_too_large.Given as goal

-- those so far give nothing
abbrev pub invariant-loop-literal : goal.invariant-loop-literal
invariant-loop-literal l = list_any is_too_large (map literal_view (drop l.literal-index l.literals)) ≡ list_any is_too_large (map literal_view l.literals)
