use Rattle.std.proofs.Common.{◌≡◌, ◌+◌, length}
use Rattle.pdl_net.specs.Growth.{Extends}
use Rattle.pdl_port.specs.Places.{HasPlaces, AreReset}
use Rattle.pdl_port.proofs.state.emit_registers.Given as goal

abbrev pub invariant-loop-k : goal.invariant-loop-k
invariant-loop-k l = record {
  extends : Extends l.fn.b l.b;
  place : length l.b.regs ≡ l.fn.l.from + l._k + 1;
  places : HasPlaces l.b l.fn.l l._k;
  reset : AreReset l.b l.fn.l l._k;
}
