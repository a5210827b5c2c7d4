use Rattle.pdl_net.specs.Signal.{const_signal}
use Rattle.pdl_net.specs.Growth.{Extends}
use Rattle.pdl_net.specs.Meaning.{Means}
use Rattle.pdl_lockapi.specs.Laws.{step_signals}
use Rattle.pdl_lock_ring.specs.Steps.{filled_bit}
use Rattle.pdl_lock_ring.proofs.fill.emit_bit.Given as goal

abbrev pub invariant-loop-j : goal.invariant-loop-j
invariant-loop-j l = record {
  extends : Extends l.fn.b l.b;
  one : Means l.b l.one (const_signal 1 1);
  bit : Means l.b l.bit (filled_bit l.l (step_signals l.fn.b l.p) l.k l.j);
}
