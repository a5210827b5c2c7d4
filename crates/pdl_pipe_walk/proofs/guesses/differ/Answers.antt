use Rattle.std.proofs.Common.{◌≡◌, ◌∙◌, sym, ap, ap₂, arith}
use Rattle.pdl_net.specs.Signal.{Signal}
use Rattle.pdl_net.specs.Meaning.{signal, Means}
use Rattle.pdl_net.proofs.Keeps.{extends_trans}
use Rattle.pdl_pipe_exprs.specs.Nets.{signals_in, signal_at}
use Rattle.pdl_pipe_exprs.proofs.NetLists.{nets_there, nets_kept, length_signals}
use Rattle.pdl_pipe_walk.specs.Guesses.{or_differ, differ_signal}
use Rattle.pdl_pipe_walk.proofs.Choices.{same_length, same_width, differ_more, differ_all}
use Rattle.pdl_pipe_walk.proofs.guesses.differ.Goals as goal

pub variable-x-requires-clause-there : goal.variable-x-requires-clause-there
variable-x-requires-clause-there c = nets_there c.args.b.now c.loop-i.b c.args.xs.now c.loop-i.invariant.extends c.requires.xs

pub variable-y-requires-clause-there : goal.variable-y-requires-clause-there
variable-y-requires-clause-there c = nets_there c.args.b.now c.loop-i.b c.args.ys.now c.loop-i.invariant.extends c.requires.ys

pub find_different-requires-clause-widths : goal.find_different-requires-clause-widths
find_different-requires-clause-widths c =
    let a = c.args.b.now in
    let b = c.loop-i.b in
    let e = c.loop-i.invariant.extends in
    let width : Signal → _ = λ (f : Signal). f.width in
    ap width (c.variable-x.ensures.same ∙ ap (λ fs. signal_at fs c.loop-i.i) (nets_kept a b c.args.xs.now e c.requires.xs))
    ∙ same_width (signals_in a c.args.xs.now) (signals_in a c.args.ys.now) c.loop-i.i c.requires.widths
    ∙ sym (ap width (c.variable-y.ensures.same ∙ ap (λ fs. signal_at fs c.loop-i.i) (nets_kept a b c.args.ys.now e c.requires.ys)))

pub loop-i-preserved : goal.loop-i-preserved
loop-i-preserved c =
    let a = c.args.b.now in
    let b = c.loop-i.b in
    let d = c.find_different.new.b in
    let e = c.loop-i.invariant.extends in
    let k = c.find_different.ensures.extends in
    let xs = c.args.xs.now in
    let ys = c.args.ys.now in
    let fs = signals_in a xs in
    let gs = signals_in a ys in
    let i = c.loop-i.i in
    let found = signal b c.loop-i.found in
    let means = c.in_ok-found.ensures.means in
    let x_is = c.variable-x.ensures.same ∙ ap (λ hs. signal_at hs i) (nets_kept a b xs e c.requires.xs) in
    let y_is = c.variable-y.ensures.same ∙ ap (λ hs. signal_at hs i) (nets_kept a b ys e c.requires.ys) in
    let z_is : signal d c.in_ok-found.found ≡ or_differ found (signal_at fs i) (signal_at gs i) = means.same ∙ ap₂ (or_differ found) x_is y_is in
    let low = c.loop-i-test.true in
    let n = length_signals a xs in
    record {
      found = means.there;
      one = ap (λ (f : Signal). f.width) z_is;
      means =
          differ_more fs gs i found (signal d c.in_ok-found.found) (differ_signal fs gs) (omega (arith, low, n))
          (same_length fs gs c.requires.widths) z_is c.loop-i.invariant.means;
      extends = extends_trans a b d e k;
    }

pub returns-clause-means : goal.returns-clause-means
returns-clause-means c =
    let a = c.args.b.now in
    let b = c.loop-i.b in
    let fs = signals_in a c.args.xs.now in
    let gs = signals_in a c.args.ys.now in
    let n = length_signals a c.args.xs.now in
    let out = c.loop-i-test.false in
    let made : Means b c.loop-i.found (differ_signal fs gs) =
    record {
      there = c.loop-i.invariant.found;
      same = differ_all fs gs c.loop-i.i (signal b c.loop-i.found) (differ_signal fs gs) (omega (arith, out, n)) c.loop-i.invariant.means;
    } in
    made
