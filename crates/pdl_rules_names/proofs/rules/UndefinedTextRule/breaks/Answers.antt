use Rattle.std.proofs.Common.{ap, sym, ◌∙◌, ◌||◌, map}
use Rattle.std.proofs.lemmas.Bool.{or_left}
use Rattle.pdl_kit.specs.declared.rule.Rule.TheVariants.{N1}
use Rattle.pdl_syntax_tree.specs.View.{pipe_view}
use Rattle.pdl_rules.specs.Places.{places}
use Rattle.pdl_rules.specs.Names.{some_use, is_undefined}
use Rattle.pdl_rules.specs.Refusal.{breaks_rule}
use Rattle.pdl_paths.specs.Actions.{place_view}
use Rattle.pdl_rules_on_texts.proofs.LineSteps.{breaks_kth}
use Rattle.pdl_rules_names.proofs.rules.UndefinedTextRule.breaks.Goals as goal
use Rattle.pdl_rules_on_paths.proofs.Nth.{nth}

pub returns-then-names_another_pipe : goal.returns-then-names_another_pipe
returns-then-names_another_pipe c =
    let p = pipe_view c.args.self.now.pipe.now in
    let y = c.index-places-k.result in
    breaks_kth (breaks_rule N1 p) (map place_view c.args.places.now) c.args.k (place_view y) c.names_another_pipe.result
    (nth place_view c.args.places.now c.args.k y c.requires.here c.index-places-k.is)
    (c.if-names_another_pipe.true ∙ sym (or_left _ _ (sym c.names_another_pipe.ensures ∙ c.if-names_another_pipe.true)))

pub returns-else-names_another_pipe : goal.returns-else-names_another_pipe
returns-else-names_another_pipe c =
    let p = pipe_view c.args.self.now.pipe.now in
    let y = c.index-places-k.result in
    breaks_kth (breaks_rule N1 p) (map place_view c.args.places.now) c.args.k (place_view y) c.some_use.result
    (nth place_view c.args.places.now c.args.k y c.requires.here c.index-places-k.is)
    (c.some_use.ensures
    ∙ ap (λ ds. some_use (is_undefined ds) (place_view y)) c.requires.fits.all
    ∙ ap (λ a. a || some_use (is_undefined (places p)) (place_view y)) (sym (sym c.names_another_pipe.ensures ∙ c.if-names_another_pipe.false)))
