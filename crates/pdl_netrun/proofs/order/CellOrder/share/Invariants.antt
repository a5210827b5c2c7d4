use Rattle.std.proofs.Common.{◌≡◌, ◌≤◌, length}
use Rattle.pdl_netrun.proofs.order.CellOrder.share.Given as goal

abbrev pub invariant-loop-k : goal.invariant-loop-k
invariant-loop-k l = record {
  ready : l.share.ready ≤ l.k;
  left : l.share.left ≤ l.k;
  run : length l.run ≡ length l.initial.run;
}
