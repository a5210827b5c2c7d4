use Rattle.std.proofs.Common.{ap, ◌∙◌, subst}
use Rattle.pdl_net.specs.Signal.{Signal}
use Rattle.pdl_net.specs.Meaning.{signal, cell_signal}
use Rattle.pdl_build.specs.Rules.{StandsFor}
use Rattle.pdl_build.proofs.RuleMeanings.{choice_turned}
use Rattle.pdl_build.proofs.Builder.simple_mux.Goals as goal

pub returns-in-Some-Not : goal.returns-in-Some-Not
returns-in-Some-Not c =
    let v = c.args.self.now in
    let e = c.in-Some-Not.ensures.same ∙ ap (cell_signal v (signal v)) c.in-Some-Not.field-0-is in
    let S : Signal → Type 0 = λ f. StandsFor v f c.simple_choice.result in
    subst S
    (choice_turned (signal v c.args.choice) (signal v c.in-Some-Not.x) (signal v c.args.a)
    (signal v c.args.b) e c.requires.choice.width (c.is_below.ensures c.if-is_below.true) c.requires.widths) c.simple_choice.ensures
