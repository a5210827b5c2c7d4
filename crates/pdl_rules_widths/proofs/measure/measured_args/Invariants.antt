use Rattle.std.proofs.Common.{◌≡◌, ◌||◌, map, drop}
use Rattle.std.specs.List.{list_any}
use Rattle.pdl_syntax_tree.specs.View.{expr_view}
use Rattle.pdl_rules.specs.Parts.{some_part, of_constant}
use Rattle.pdl_rules.specs.Widths.{is_unequal, is_out_of_range, is_wide_choice, is_too_large}
use Rattle.pdl_rules_widths.proofs.measure.measured_args.Given as goal

abbrev pub invariant-loop-e : goal.invariant-loop-e
invariant-loop-e l =
    record {
      unequal : (l.all.unequal || list_any (some_part (is_unequal l.variables)) (map expr_view (drop l.e-index l.args)))
          ≡ list_any (some_part (is_unequal l.variables)) (map expr_view l.args);
      out_of_range : (l.all.out_of_range || list_any (some_part (is_out_of_range l.variables)) (map expr_view (drop l.e-index l.args)))
          ≡ list_any (some_part (is_out_of_range l.variables)) (map expr_view l.args);
      wide_choice : (l.all.wide_choice || list_any (some_part (is_wide_choice l.variables)) (map expr_view (drop l.e-index l.args)))
          ≡ list_any (some_part (is_wide_choice l.variables)) (map expr_view l.args);
      too_large : (l.all.too_large || list_any (some_part (of_constant is_too_large)) (map expr_view (drop l.e-index l.args)))
          ≡ list_any (some_part (of_constant is_too_large)) (map expr_view l.args);
    }
