use Rattle.std.proofs.Common.{◌≡◌, ◌++◌, map, drop}
use Rattle.pdl_semantics.specs.Flatten as spec
use Rattle.pdl_syntax_tree.specs.View.{param_view}
use Rattle.pdl_form_lower.specs.Lowerable.{AreLowerableParams}
use Rattle.pdl_form_lower.proofs.parts.params.Given as goal

-- those so far and the rest are all
abbrev pub invariant-loop-param : goal.invariant-loop-param
invariant-loop-param l =
    record {
      all : l.vars.vars ++ spec.params_of (map param_view (drop l.param-index l.params)) ≡ spec.params_of (map param_view l.params);
      table : l.vars.table ≡ l.table;
      lowerable : AreLowerableParams l.table (map param_view (drop l.param-index l.params));
    }
