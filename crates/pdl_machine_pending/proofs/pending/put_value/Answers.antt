use Rattle.std.proofs.Common.{◌<◌, length, arith}
use Rattle.pdl_semantics.specs.Cycle as cycle
use Rattle.pdl_machine_pending.specs.View.{pending_view}
use Rattle.pdl_machine_pending.proofs.Sweeps.{swept_left, swept_done}
use Rattle.pdl_machine_pending.proofs.pending.put_value.Goals as goal
use Rattle.pdl_semantics.proofs.Facts.{put_append}

pub loop-i-preserved : goal.loop-i-preserved
loop-i-preserved c =
    let here : c.loop-i.i < length c.loop-i.pending = omega arith in
    record {
      done =
          swept_done pending_view c.loop-i.pending c.args.pending.now c.loop-i.i c.with_value-entry.result _ here c.loop-i.auto.pending c.loop-i.invariant.left
          (cycle.with_value_of c.args.thread c.args.var c.args.value) (put_append c.args.thread c.args.var c.args.value) c.loop-i.invariant.done c.with_value-entry.ensures;
      left =
          swept_left pending_view c.loop-i.pending c.args.pending.now c.loop-i.i c.with_value-entry.result c.with_value-entry.result here c.loop-i.auto.pending c.loop-i.invariant.left;
    }
