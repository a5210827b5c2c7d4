use Rattle.std.proofs.Common.{ap, sym, ◌∙◌, false, ◌||◌, map, take, bytes_eq}
use Rattle.pdl_kit.specs.declared.rule.Rule.TheVariants.{N2}
use Rattle.pdl_syntax_tree.specs.View.{pipe_view}
use Rattle.pdl_rules.specs.Parts.{is_some_and}
use Rattle.pdl_rules.specs.Names.{name_at, is_taken_name}
use Rattle.pdl_rules.specs.Refusal.{breaks_rule}
use Rattle.pdl_paths.specs.Actions.{place_view}
use Rattle.pdl_rules_on_texts.proofs.LineSteps.{breaks_kth}
use Rattle.pdl_rules_names.specs.First.{comes_before}
use Rattle.pdl_rules_names.proofs.Firsts.{any_before}
use Rattle.pdl_rules_names.proofs.rules.TakenNameTextRule.breaks.Goals as goal
use Rattle.pdl_rules_on_paths.proofs.Nth.{nth}

pub returns-in-Some : goal.returns-in-Some
returns-in-Some c =
    let p = pipe_view c.args.self.now.pipe.now in
    let xs = map place_view c.args.places.now in
    let k = c.args.k in
    let y = c.index-places-k.result in
    let x = c.in-Some.name.now in
    breaks_kth (breaks_rule N2 p) xs k (place_view y) c.is_taken.result (nth place_view c.args.places.now k y c.requires.here c.index-places-k.is)
    (c.is_taken.ensures
    ∙ ap (λ o. bytes_eq x p.name.name || comes_before o k) (c.requires.fits.first.names x)
    ∙ ap (λ a. bytes_eq x p.name.name || a) (sym (any_before (λ d. is_some_and (bytes_eq x) (name_at d)) xs k))
    ∙ ap (is_some_and (is_taken_name p (take k xs))) c.in-Some.ensures)

pub returns-in-None : goal.returns-in-None
returns-in-None c =
    let p = pipe_view c.args.self.now.pipe.now in
    let xs = map place_view c.args.places.now in
    let k = c.args.k in
    let y = c.index-places-k.result in
    breaks_kth (breaks_rule N2 p) xs k (place_view y) false (nth place_view c.args.places.now k y c.requires.here c.index-places-k.is)
    (ap (is_some_and (is_taken_name p (take k xs))) c.in-None.ensures)
