use Rattle.std.proofs.Common.{◌≡◌}
use Rattle.pdl_net.specs.Signal.{const_signal}
use Rattle.pdl_net.specs.Growth.{Extends}
use Rattle.pdl_net.specs.Meaning.{signal, Means}
use Rattle.pdl_port.specs.Laws.{signal_at}
use Rattle.pdl_port.specs.Nets.{free_signal}
use Rattle.pdl_port.proofs.free.emit_free.Given as goal

abbrev pub invariant-loop-k : goal.invariant-loop-k
invariant-loop-k l = record {
  extends : Extends l.fn.b l.b;
  zero : Means l.b l.zero (const_signal 1 0);
  free : Means l.b l.free (free_signal l.l (signal l.fn.b l.reply) (signal_at l.fn.b l.moves) l.k);
  one : (signal l.b l.free).width ≡ 1;
}
