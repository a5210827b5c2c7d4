use Rattle.std.proofs.Common.{sym, ap, ◌∙◌, map, Some}
use Rattle.pdl_syntax_tree.specs.View.{mem_view}
use Rattle.pdl_paths.specs.Actions.{place_view}
use Rattle.pdl_rules_on_paths.proofs.Lines.{first_found, first_passed}
use Rattle.pdl_rules_widths.specs.Advice.{breaks_advice}
use Rattle.pdl_rules_widths.proofs.advice.advice_line.Goals as goal

pub returns-then-breaks_advice : goal.returns-then-breaks_advice
returns-then-breaks_advice c =
    ap Some c.line.ensures
    ∙ first_found (breaks_advice c.args.variables.now (map mem_view c.args.mems.now)) place_view c.args.places.now
    c.loop-place.place-index c.place-item.result _ c.loop-place-test.true c.place-item.is
    (sym c.breaks_advice.ensures ∙ c.if-breaks_advice.true) c.loop-place.invariant

pub loop-place-preserved : goal.loop-place-preserved
loop-place-preserved c =
    first_passed (breaks_advice c.args.variables.now (map mem_view c.args.mems.now)) place_view c.args.places.now
    c.loop-place.place-index c.place-item.result _ c.loop-place-test.true c.place-item.is
    (sym c.breaks_advice.ensures ∙ c.if-breaks_advice.false) c.loop-place.invariant
