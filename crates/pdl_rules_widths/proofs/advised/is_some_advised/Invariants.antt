use Rattle.std.proofs.Common.{◌≡◌, drop}
use Rattle.std.specs.List.{list_any}
use Rattle.pdl_semantics.specs.Flatten as spec
use Rattle.pdl_syntax_tree.specs.View.{exprs_view}
use Rattle.pdl_rules_widths.proofs.advised.is_some_advised.Given as goal

-- none so far is advised
abbrev pub invariant-loop-e : goal.invariant-loop-e
invariant-loop-e l = list_any (spec.is_advised l.variables) (exprs_view (drop l.e-index l.es)) ≡ list_any (spec.is_advised l.variables) (exprs_view l.es)
