use Rattle.std.proofs.Common.{ℕ, sym, subst, ap, ◌∙◌, ◌<◌, ◌^◌}
use Rattle.pdl_net.specs.Circuit.{State}
use Rattle.pdl_net.specs.Meaning.{signal}
use Rattle.pdl_net.specs.Signal.{Signal, bin_width}
use Rattle.pdl_build.specs.declared.rules.OperatorRule.{OperatorRule}
use Rattle.pdl_build.specs.Rules.{Gives, StandsFor}
use Rattle.pdl_build.proofs.RuleMeanings.{first_same, second_same, complement_same, number_same, number_fits, at_rest}
use Rattle.pdl_build.proofs.Builder.simple_bin.Goals as goal

pub returns-in-First : goal.returns-in-First
returns-in-First c =
    let a = signal c.args.self.now c.args.a in
    let b = signal c.args.self.now c.args.b in
    let P : OperatorRule → Type 0 = λ r. (s : State) → Gives r c.args.op a.width (a.value s) (b.value s) in
    record { there = c.requires.a_there; same = first_same c.args.op a b (subst P c.in-First.is c.rule.ensures) }

pub returns-in-Second : goal.returns-in-Second
returns-in-Second c =
    let a = signal c.args.self.now c.args.a in
    let b = signal c.args.self.now c.args.b in
    let P : OperatorRule → Type 0 = λ r. (s : State) → Gives r c.args.op a.width (a.value s) (b.value s) in
    record { there = c.requires.b_there; same = second_same c.args.op a b c.requires.widths (subst P c.in-Second.is c.rule.ensures) }

pub returns-in-Number : goal.returns-in-Number
returns-in-Number c =
    let a = signal c.args.self.now c.args.a in
    let b = signal c.args.self.now c.args.b in
    let P : OperatorRule → Type 0 = λ r. (s : State) → Gives r c.args.op a.width (a.value s) (b.value s) in
    let g = subst P c.in-Number.is c.rule.ensures in
    let w = c.bin_width-width.ensures ∙ ap (bin_width c.args.op) c.width.ensures.value in
    let L : ℕ → Type 0 = λ n. c.in-Number.value < 2 ^ n in (
      number_fits c.args.self.now c.args.op c.bin_width-width.result c.in-Number.value c.width.result c.bin_width-width.ensures c.width.ensures.low c.width.ensures.high
          (subst L (ap (bin_width c.args.op) (sym c.width.ensures.value)) (g at_rest).0),
      number_same c.args.op a b c.bin_width-width.result c.in-Number.value w g,
    )

pub returns-in-Complement : goal.returns-in-Complement
returns-in-Complement c =
    let v = c.args.self.now in
    let a = signal v c.args.a in
    let b = signal v c.args.b in
    let P : OperatorRule → Type 0 = λ r. (s : State) → Gives r c.args.op a.width (a.value s) (b.value s) in
    let S : Signal → Type 0 = λ f. StandsFor v f c.simple_not.result in
    subst S (complement_same c.args.op a b (subst P c.in-Complement.is c.rule.ensures)) c.simple_not.ensures
