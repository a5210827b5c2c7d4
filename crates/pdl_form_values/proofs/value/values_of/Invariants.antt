use Rattle.std.proofs.Common.{◌≡◌, ◌++◌, drop}
use Rattle.std.specs.Prelude.{vec_len, vec_capacity}
use Rattle.pdl_semantics.specs.Flat as flat
use Rattle.pdl_form.specs.View.{exprs_view}
use Rattle.pdl_form_values.specs.Safe.{AreSafe}
use Rattle.pdl_form_values.proofs.value.values_of.Given as goal

-- the arguments so far have their values
abbrev pub invariant-loop-arg : goal.invariant-loop-arg
invariant-loop-arg l =
    record {
      values : l.given.items ++ flat.values_of (exprs_view (drop l.arg-index l.args)) l.values ≡ flat.values_of (exprs_view l.args) l.values;
      safe : AreSafe (exprs_view (drop l.arg-index l.args)) l.values;
      count : vec_len l.given ≡ l.arg-index;
      capacity : vec_capacity l.given ≡ vec_capacity l.initial.given;
    }
