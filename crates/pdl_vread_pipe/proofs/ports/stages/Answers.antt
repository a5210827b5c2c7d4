use Rattle.std.proofs.Common.{arith}
use Rattle.pdl_vread_pipe.specs.ExpectedPorts.{heads}
use Rattle.pdl_vread_pipe.proofs.Strips.{stage_more, stage_stop}
use Rattle.pdl_vread_pipe.proofs.ports.stages.Goals as goal

pub loop-k-preserved : goal.loop-k-preserved
loop-k-preserved c =
    stage_more c.loop-k.k c.args.count (heads c.loop-k.left.now) (heads c.in_ok-left.left.now) _ c.loop-k-test.true c.in_ok-left.ensures c.loop-k.invariant

pub returns-in_err-left : goal.returns-in_err-left
returns-in_err-left c = let e = stage_stop c.loop-k.k c.args.count (heads c.loop-k.left.now) _ c.loop-k-test.true c.in_err-left.ensures c.loop-k.invariant in
    grind (arith, e)
