use Rattle.std.proofs.Common.{◌≡◌, ◌∙◌, ◌∷◌, [], sym, ap, ap₂, subst, arith}
use Rattle.std.proofs.lemmas.List.{take_all, map-append}
use Rattle.pdl_net.specs.Signal.{Signal, mux_signal}
use Rattle.pdl_net.specs.Meaning.{signal}
use Rattle.pdl_net.proofs.Keeps.{extends_trans}
use Rattle.pdl_pipe_exprs.specs.Nets.{NetsThere, signals_in, signal_at}
use Rattle.pdl_pipe_exprs.proofs.NetLists.{nets_there, nets_kept, net_more, length_signals}
use Rattle.pdl_pipe_walk.specs.Guesses.{choices}
use Rattle.pdl_pipe_walk.proofs.Choices.{same_length, same_width, choices_length, choices_more}
use Rattle.pdl_pipe_walk.proofs.guesses.choose.Goals as goal

pub variable-x-requires-clause-there : goal.variable-x-requires-clause-there
variable-x-requires-clause-there c = nets_there c.args.b.now c.loop-i.b c.args.xs.now c.loop-i.invariant.extends c.requires.xs

pub variable-y-requires-clause-there : goal.variable-y-requires-clause-there
variable-y-requires-clause-there c = nets_there c.args.b.now c.loop-i.b c.args.ys.now c.loop-i.invariant.extends c.requires.ys

pub mux-requires-clause-widths : goal.mux-requires-clause-widths
mux-requires-clause-widths c =
    let a = c.args.b.now in
    let b = c.loop-i.b in
    let e = c.loop-i.invariant.extends in
    let width : Signal → _ = λ (f : Signal). f.width in
    ap width (c.variable-x.ensures.same ∙ ap (λ fs. signal_at fs c.loop-i.i) (nets_kept a b c.args.xs.now e c.requires.xs))
    ∙ same_width (signals_in a c.args.xs.now) (signals_in a c.args.ys.now) c.loop-i.i c.requires.widths
    ∙ sym (ap width (c.variable-y.ensures.same ∙ ap (λ fs. signal_at fs c.loop-i.i) (nets_kept a b c.args.ys.now e c.requires.ys)))

pub loop-i-preserved : goal.loop-i-preserved
loop-i-preserved c =
    let a = c.args.b.now in
    let b = c.loop-i.b in
    let d = c.mux.new.self in
    let e = c.loop-i.invariant.extends in
    let k = c.mux.ensures.extends in
    let xs = c.args.xs.now in
    let ys = c.args.ys.now in
    let fs = signals_in a xs in
    let gs = signals_in a ys in
    let nets = c.loop-i.nets in
    let z = c.in_ok-net.net in
    let pushed = c.in_ok-push.ensures.ok in
    let means = c.in_ok-net.ensures.means in
    let i = c.loop-i.i in
    let x_is = c.variable-x.ensures.same ∙ ap (λ hs. signal_at hs i) (nets_kept a b xs e c.requires.xs) in
    let y_is = c.variable-y.ensures.same ∙ ap (λ hs. signal_at hs i) (nets_kept a b ys e c.requires.ys) in
    let z_is : signal d z ≡ mux_signal (signal a c.args.on) (signal_at fs i) (signal_at gs i) =
    means.same
    ∙ ap (λ o. mux_signal o (signal b c.variable-x.result) (signal b c.variable-y.result)) (e.kept c.args.on c.requires.on.there)
    ∙ ap₂ (mux_signal (signal a c.args.on)) x_is y_is in
    let low = c.loop-i-test.true in
    let n = length_signals a xs in
    record {
      there = subst (NetsThere d) (sym pushed) (net_more d nets z (nets_there b d nets k c.loop-i.invariant.there) means.there);
      means = ap (signals_in d) pushed ∙ map-append (signal d) nets (z ∷ [])
          ∙ choices_more (signal a c.args.on) fs gs i (signals_in d nets) (signal d z) (omega (arith, low, n))
          (same_length fs gs c.requires.widths)
          (nets_kept b d nets k c.loop-i.invariant.there ∙ c.loop-i.invariant.means) z_is;
      extends = extends_trans a b d e k;
    }

pub returns-clause-means : goal.returns-clause-means
returns-clause-means c =
    let a = c.args.b.now in
    let fs = signals_in a c.args.xs.now in
    let gs = signals_in a c.args.ys.now in
    let on = signal a c.args.on in
    let same = same_length fs gs c.requires.widths in
    let long = choices_length on fs gs same in
    let n = length_signals a c.args.xs.now in
    let out = c.loop-i-test.false in
    c.loop-i.invariant.means ∙ take_all c.loop-i.i (choices on fs gs) (omega (arith, out, n, same, long))
