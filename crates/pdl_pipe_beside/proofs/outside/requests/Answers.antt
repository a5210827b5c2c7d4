use Rattle.std.proofs.Common.{◌+◌, List, sym, subst}
use Rattle.std.specs.Prelude.{Option}
use Rattle.pdl_form.specs.FormView.{form}
use Rattle.pdl_net.proofs.Keeps.{extends_keeps, extends_trans}
use Rattle.pdl_pipe_beside.specs.declared.outside.RequestNets.{RequestNets}
use Rattle.pdl_pipe_beside.specs.Requests.{AreRequests}
use Rattle.pdl_pipe_beside.proofs.EndGrowth.{ends_kept}
use Rattle.pdl_pipe_beside.proofs.StageRequests.{requests_more}
use Rattle.pdl_pipe_beside.proofs.outside.requests.Goals as goal

pub memory_request-requires-clause-ends : goal.memory_request-requires-clause-ends
memory_request-requires-clause-ends c =
    ends_kept (form c.args.round.now.pipe.now) c.args.round.now.ends.now c.args.b.now c.loop-m.b c.requires.ends c.loop-m.invariant.extends

pub loop-m-preserved : goal.loop-m-preserved
loop-m-preserved c =
    let f = form c.args.round.now.pipe.now in
    let es = c.args.round.now.ends.now in
    let a = c.args.b.now in
    let b = c.loop-m.b in
    let d = c.memory_request.new.b in
    let m = c.loop-m.m in
    let v = c.loop-m.invariant in
    let s = c.in_ok-one.ensures in
    let more =
    requests_more a b d f es c.loop-m.found.items c.in_ok-one.one m (extends_keeps a b v.extends)
    (extends_keeps b d s.extends) c.requires.ends s.asks v.asks in
    record {
      asks = subst (λ (xs : List (Option RequestNets)). AreRequests a d f.pipe es xs (m + 1)) (sym c.in_ok-push.ensures.items) more;
      extends = extends_trans a b d v.extends s.extends;
    }
