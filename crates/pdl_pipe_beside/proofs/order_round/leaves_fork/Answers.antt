use Rattle.std.proofs.Common.{◌<◌, ◌-◌, ◌∙◌, length, ap, ap₂, arith}
use Rattle.std.specs.Prelude.{slice_index_or}
use Rattle.pdl_form.specs.FormView.{form}
use Rattle.pdl_net.specs.Meaning.{signal}
use Rattle.pdl_net.proofs.Keeps.{extends_keeps, extends_trans}
use Rattle.pdl_pipe_exprs.specs.Nets.{signal_at}
use Rattle.pdl_pipe_beside.specs.Ends.{no_view, ends_in, moves_in}
use Rattle.pdl_pipe_beside.specs.Steps.{leave_or}
use Rattle.pdl_pipe_beside.proofs.EndGrowth.{ends_kept, views_same, moves_same}
use Rattle.pdl_pipe_beside.proofs.OrderSteps.{leave_more}
use Rattle.pdl_pipe_beside.proofs.order_round.leaves_fork.Goals as goal

pub leave_or-requires-clause-ends : goal.leave_or-requires-clause-ends
leave_or-requires-clause-ends c =
    ends_kept (form c.args.round.now.pipe.now) c.args.round.now.ends.now c.args.b.now c.loop-i.b c.requires.ends c.loop-i.invariant.extends

pub loop-i-preserved : goal.loop-i-preserved
loop-i-preserved c =
    let f = form c.args.round.now.pipe.now in
    let p = f.pipe in
    let es = c.args.round.now.ends.now in
    let a = c.args.b.now in
    let b = c.loop-i.b in
    let d = c.leave_or.new.b in
    let i = c.loop-i.i in
    let n = length es in
    let v = c.loop-i.invariant in
    let s = c.in_ok-net.ensures in
    let k = extends_keeps a b v.extends in
    let low : i < n = omega (arith, c.loop-i-test.true, c.loop-i.auto.i-end) in
    record {
      means = record {
        there = s.means.there;
        same = s.means.same
            ∙ ap₂ (λ vs ms. leave_or p (λ j. slice_index_or vs j no_view) (λ j. signal_at ms j) c.args.fork (n - 1 - i) (signal b c.loop-i.net))
            (views_same a b k f es c.requires.ends) (moves_same a b k f es c.requires.ends)
            ∙ ap (leave_or p (ends_in a es) (moves_in a es) c.args.fork (n - 1 - i)) v.means.same
            ∙ leave_more p (ends_in a es) (moves_in a es) c.args.fork n i low;
      };
      one = s.one;
      extends = extends_trans a b d v.extends s.extends;
    }
