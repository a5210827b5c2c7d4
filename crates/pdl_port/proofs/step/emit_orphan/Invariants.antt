use Rattle.std.proofs.Common.{◌≡◌}
use Rattle.pdl_net.specs.Signal.{const_signal}
use Rattle.pdl_net.specs.Growth.{Extends}
use Rattle.pdl_net.specs.Meaning.{signal, Means}
use Rattle.pdl_port.specs.Laws.{step_signals}
use Rattle.pdl_port.specs.Nets.{orphan_signal}
use Rattle.pdl_port.proofs.step.emit_orphan.Given as goal

abbrev pub invariant-loop-k : goal.invariant-loop-k
invariant-loop-k l = record {
  extends : Extends l.fn.b l.b;
  one : Means l.b l.one (const_signal 1 1);
  zero : Means l.b l.zero (const_signal 1 0);
  orphan : Means l.b l.orphan (orphan_signal l.l (step_signals l.fn.b l.r l.p) l.k);
  wide : (signal l.b l.orphan).width ≡ 1;
}
