use Rattle.std.proofs.Common.{◌≡◌}
use Rattle.pdl_net.specs.Growth.{Extends}
use Rattle.pdl_net.specs.Meaning.{Means, signal}
use Rattle.pdl_lockapi.specs.Laws.{step_signals}
use Rattle.pdl_lock_ring.specs.Steps.{filled_value}
use Rattle.pdl_lock_ring.proofs.fill.emit_value.Given as goal

abbrev pub invariant-loop-j : goal.invariant-loop-j
invariant-loop-j l = record {
  extends : Extends l.fn.b l.b;
  value_width : (signal l.b l.value).width ≡ l.l.width;
  value : Means l.b l.value (filled_value l.l (step_signals l.fn.b l.p) (signal l.fn.b l.fn.before) (signal l.fn.b l.fn.slot) l.j);
}
