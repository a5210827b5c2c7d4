use Rattle.std.proofs.Common.{◌≡◌, ◌++◌, map, drop}
use Rattle.pdl_semantics.specs.Flatten as spec
use Rattle.pdl_syntax_tree.specs.View.{exprs_view as trees_view}
use Rattle.pdl_form.specs.View.{expr_view}
use Rattle.pdl_form_lower.specs.Lowerable.{AreLowerable}
use Rattle.pdl_form_lower.proofs.expr.flat_exprs.Given as goal

-- those so far and the rest are all
abbrev pub invariant-loop-e : goal.invariant-loop-e
invariant-loop-e l =
    record {
      all : map expr_view l.args ++ spec.flat_exprs l.vars.vars (trees_view (drop l.e-index l.es)) ≡ spec.flat_exprs l.vars.vars (trees_view l.es);
      lowerable : AreLowerable l.vars.table (trees_view (drop l.e-index l.es));
    }
