use Rattle.std.proofs.Common.{◌≡◌, ◌+◌, length}
use Rattle.pdl_net.specs.Growth.{Extends}
use Rattle.pdl_lock_ring.specs.Registers.{HasRow, IsRowReset}
use Rattle.pdl_lock_ring.proofs.state.emit_row.Given as goal

abbrev pub invariant-loop-k : goal.invariant-loop-k
invariant-loop-k l = record {
  extends : Extends l.fn.b l.b;
  place : length l.b.regs ≡ l.r.first + l.k;
  row : HasRow l.b l.r l.k;
  reset : IsRowReset l.b l.r l.start l.step l.k;
}
