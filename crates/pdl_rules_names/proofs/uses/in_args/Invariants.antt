use Rattle.std.proofs.Common.{◌≡◌, map, drop}
use Rattle.std.specs.List.{list_any}
use Rattle.pdl_syntax_tree.specs.View.{expr_view}
use Rattle.pdl_rules.specs.Parts.{some_part}
use Rattle.pdl_rules.specs.Names.{reads_some}
use Rattle.pdl_rules_names.proofs.uses.in_args.Given as goal

-- those so far give nothing
abbrev pub invariant-loop-e : goal.invariant-loop-e
invariant-loop-e g l =
    list_any (some_part (reads_some (g.T.UseTest.test l.test))) (map expr_view (drop l.e-index l.args))
    ≡ list_any (some_part (reads_some (g.T.UseTest.test l.test))) (map expr_view l.args)
