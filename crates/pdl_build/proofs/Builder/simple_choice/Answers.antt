use Rattle.std.proofs.Common.{subst, ap, ◌∙◌, arith}
use Rattle.pdl_net.specs.Signal.{Signal, const_value}
use Rattle.pdl_net.specs.Meaning.{signal}
use Rattle.pdl_build.specs.Rules.{StandsFor}
use Rattle.pdl_build.proofs.RuleMeanings.{choice_same, choice_other}
use Rattle.pdl_build.proofs.Builder.simple_choice.Goals as goal

pub returns-in-Some-Some : goal.returns-in-Some-Some
returns-in-Some-Some c =
    let v = c.args.self.now in
    record {
      there = c.requires.choice.there;
      same =
          choice_same (signal v c.args.choice) (signal v c.args.a)
          (signal v c.args.b) c.requires.choice.width (omega (arith, c.width.ensures.value, c.if-width-ne1.false))
          (c.is_below.ensures c.if-not-is_below.false)
          (c.in-Some-Some.ensures.value ∙ ap const_value c.if-x-eq1.true) (c.in-Some-Some.ensures'.value ∙ ap const_value c.if-y-eq0.true);
    }

pub returns-in-Some-Some-2 : goal.returns-in-Some-Some-2
returns-in-Some-Some-2 c =
    let v = c.args.self.now in
    let P : Signal → Type 0 = λ f. StandsFor v f c.simple_not.result in
    subst P
    (choice_other (signal v c.args.choice) (signal v c.args.a)
    (signal v c.args.b) c.requires.choice.width (omega (arith, c.width.ensures.value, c.if-width-ne1.false))
    (c.is_below.ensures c.if-not-is_below.false)
    (c.in-Some-Some.ensures.value ∙ ap const_value c.if-x-eq0.true) (c.in-Some-Some.ensures'.value ∙ ap const_value c.if-y-eq1.true)) c.simple_not.ensures
