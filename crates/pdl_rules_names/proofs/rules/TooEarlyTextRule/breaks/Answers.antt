use Rattle.std.proofs.Common.{ap, ◌∙◌, map, take}
use Rattle.pdl_kit.specs.declared.rule.Rule.TheVariants.{N3}
use Rattle.pdl_syntax_tree.specs.View.{pipe_view}
use Rattle.pdl_rules.specs.Parts.{is_some_and}
use Rattle.pdl_rules.specs.Names.{some_use, is_too_early}
use Rattle.pdl_rules.specs.Refusal.{breaks_rule}
use Rattle.pdl_paths.specs.Actions.{place_view}
use Rattle.pdl_rules_on_texts.proofs.LineSteps.{breaks_kth}
use Rattle.pdl_rules_names.proofs.rules.TooEarlyTextRule.breaks.Goals as goal
use Rattle.pdl_rules_on_paths.proofs.Nth.{nth}

pub returns : goal.returns
returns c =
    let p = pipe_view c.args.self.now.pipe.now in
    let xs = map place_view c.args.places.now in
    let k = c.args.k in
    let y = c.index-places-k.result in
    let got = nth place_view c.args.places.now k y c.requires.here c.index-places-k.is in
    breaks_kth (breaks_rule N3 p) xs k (place_view y) c.some_use.result got
    (c.some_use.ensures ∙ ap (λ o. some_use (λ u. is_some_and (λ x. is_too_early p (take k xs) x u) o) (place_view y)) got)
