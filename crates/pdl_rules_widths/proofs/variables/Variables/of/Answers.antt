use Rattle.std.proofs.Common.{[], ap, ◌∙◌, map}
use Rattle.std.specs.Prelude.{fold}
use Rattle.pdl_syntax_tree.specs.View.{mem_view}
use Rattle.pdl_rules.specs.Widths.{after_place}
use Rattle.pdl_paths.specs.Actions.{place_view}
use Rattle.pdl_rules_on_texts.proofs.Nth.{all_taken}
use Rattle.pdl_rules_widths.proofs.Entries.{variables_next}
use Rattle.pdl_rules_widths.proofs.variables.Variables.of.Goals as goal
use Rattle.pdl_rules_on_paths.proofs.Nth.{nth}

pub loop-k-preserved : goal.loop-k-preserved
loop-k-preserved c =
    variables_next (map mem_view c.args.mems.now) (map place_view c.args.places.now) c.loop-k.k (place_view c.index-places-k.result) _ _
    (nth place_view c.args.places.now c.loop-k.k c.index-places-k.result c.loop-k-test.true c.index-places-k.is) c.in_ok-add.ensures c.loop-k.invariant

pub returns : goal.returns
returns c =
    c.loop-k.invariant ∙ ap (fold (after_place (map mem_view c.args.mems.now)) []) (all_taken place_view c.args.places.now c.loop-k.k c.loop-k-test.false)
