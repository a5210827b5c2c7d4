use Rattle.std.proofs.Common.{◌≡◌, ℕ, ◌+◌, ◌<◌, ◌≤◌, ◌++◌, ◌∷◌, [], length, take, sym, ap, ◌∙◌, subst, arith}
use Rattle.std.proofs.lemmas.List.{take_all}
use Rattle.std.specs.Prelude.{slice_index}
use Rattle.pdl_form.specs.FormView.{form}
use Rattle.pdl_net.specs.Signal.{Signal}
use Rattle.pdl_net.specs.Meaning.{signal}
use Rattle.pdl_net.proofs.Keeps.{extends_keeps, extends_trans}
use Rattle.pdl_pipe_exprs.specs.Nets.{signals_in, signal_at}
use Rattle.pdl_pipe_exprs.proofs.NetLists.{there_keeps, signals_keep, width_at}
use Rattle.pdl_pipe_answers.specs.law_sides.Sides.{with_answer}
use Rattle.pdl_pipe_answers.specs.Ports.{answers_in, BindsWide}
use Rattle.pdl_pipe_answers.proofs.PortAnswers.{answers_keep, answer_same}
use Rattle.pdl_pipe_registers.proofs.Lists.{up_to}
use Rattle.pdl_pipe_registers.proofs.ReadWords.{binds_wide}
use Rattle.pdl_pipe_registers.proofs.Begins.{HasNets, push_nets, push_old, push_new, nets_long}
use Rattle.pdl_pipe_registers.proofs.entry.begin_answers.Goals as goal

pub variable-kept-requires-clause-there : goal.variable-kept-requires-clause-there
variable-kept-requires-clause-there c =
    there_keeps c.args.b.now c.loop-x.b c.args.vars.now (extends_keeps c.args.b.now c.loop-x.b c.loop-x.invariant.0) c.requires.vars

pub with_answers-requires-clause-ports : goal.with_answers-requires-clause-ports
with_answers-requires-clause-ports c =
    answers_keep c.args.b.now c.loop-x.b (extends_keeps c.args.b.now c.loop-x.b c.loop-x.invariant.0)
    (form c.args.pipe.now).pipe c.args.shared.now.ports.now c.requires.shared.ports

pub with_answers-requires-clause-wide : goal.with_answers-requires-clause-wide
with_answers-requires-clause-wide c = λ m.
    let a = c.args.b.now in
    let b = c.loop-x.b in
    let f = form c.args.pipe.now in
    let x = c.loop-x.x in
    let vars = c.args.vars.now in
    let e = extends_keeps a b c.loop-x.invariant.0 in
    let long = nets_long a f.widths vars c.requires.wide in
    let t = c.loop-x-test.true in
    let low : x < length f.widths = omega (arith, t, long) in
    let same = c.variable-kept.ensures.same ∙ ap (λ fs. signal_at fs x) (signals_keep a b vars e c.requires.vars) in
    let wide : slice_index f.widths x ≡ (signal b c.variable-kept.result).width =
    sym (ap (λ (g : Signal). g.width) same ∙ sym (width_at (signals_in a vars) x) ∙ ap (λ ws. slice_index ws x) c.requires.wide) in
    subst (λ w. BindsWide f.pipe x w m) wide (binds_wide f x m c.requires.typed)

pub loop-x-preserved : goal.loop-x-preserved
loop-x-preserved c =
    let a = c.args.b.now in
    let b = c.loop-x.b in
    let d = c.with_answers.new.b in
    let f = form c.args.pipe.now in
    let i = c.loop-x.x in
    let vars = c.args.vars.now in
    let xs = c.loop-x.nets in
    let net = c.in_ok-net.net in
    let ports = c.args.shared.now.ports.now in
    let k = c.args.stage in
    let ws = f.widths in
    let e = extends_keeps a b c.loop-x.invariant.0 in
    let bd = extends_keeps b d c.with_answers.ensures.extends in
    let long = nets_long a ws vars c.requires.wide in
    let t = c.loop-x-test.true in
    let low : i < length ws = omega (arith, t, long) in
    let nets = c.loop-x.invariant.2 in
    let same = c.variable-kept.ensures.same ∙ ap (λ fs. signal_at fs i) (signals_keep a b vars e c.requires.vars) in
    let wide =
    c.in_ok-net.ensures.wide ∙ ap (λ (g : Signal). g.width) same ∙ sym (width_at (signals_in a vars) i) ∙ ap (λ vs. slice_index vs i) c.requires.wide in
    let means = c.in_ok-net.ensures.means in
    let pushed = c.in_ok-push.ensures.ok in
    let goal_at : ℕ → Type 0 =
    λ y. signal_at (signals_in d (xs ++ net ∷ [])) y ≡ with_answer f.pipe (answers_in a ports) k y (signal_at (signals_in a vars) y) in
    let now =
    means.same ∙ answer_same a b e f.pipe ports k i (signal b c.variable-kept.result) c.requires.shared.ports
    ∙ ap (with_answer f.pipe (answers_in a ports) k i) same in (
      extends_trans a b d c.loop-x.invariant.0 c.with_answers.ensures.extends,
      c.with_answers.ensures.regs ∙ c.loop-x.invariant.1,
      subst (HasNets d (take (i + 1) ws)) (sym pushed) (push_nets b d bd ws i xs net low nets.there nets.wide means.there wide),
      subst (λ ys. (y : ℕ) → y < i + 1 → signal_at (signals_in d ys) y ≡ with_answer f.pipe (answers_in a ports) k y (signal_at (signals_in a vars) y))
          (sym pushed)
          (up_to goal_at i (λ y l. push_old b d bd ws i xs net low nets.there nets.wide y l ∙ c.loop-x.invariant.3 y l)
          (push_new b d bd ws i xs net low nets.there nets.wide ∙ now)),
    )

pub returns-clause-answered : goal.returns-clause-answered
returns-clause-answered c =
    let f = form c.args.pipe.now in
    let t = c.loop-x-test.false in
    let long = nets_long c.args.b.now f.widths c.args.vars.now c.requires.wide in
    let all : length f.widths ≤ c.loop-x.x = omega (arith, t, long) in
    record {
      there = c.loop-x.invariant.2.there;
      wide = c.loop-x.invariant.2.wide ∙ take_all c.loop-x.x f.widths all;
      answered =
          λ x l. c.loop-x.invariant.3 x (omega (arith, l, all))
          ∙ ap (λ fs. with_answer f.pipe (answers_in c.args.b.now c.args.shared.now.ports.now) c.args.stage x (signal_at fs x))
          (sym (signals_keep c.args.b.now c.loop-x.b c.args.vars.now (extends_keeps c.args.b.now c.loop-x.b c.loop-x.invariant.0) c.requires.vars));
    }
