use Rattle.std.proofs.Common.{◌≡◌, ◌-◌}
use Rattle.pdl_net.specs.Meaning.{Means, signal}
use Rattle.pdl_net.specs.Growth.{Extends}
use Rattle.pdl_lock_ring.specs.Choices.{bits_signal}
use Rattle.pdl_lock_ring.specs.Looks.{same_at}
use Rattle.pdl_lock_ring.proofs.look.emit_same_slots.Given as goal

abbrev pub invariant-loop-k : goal.invariant-loop-k
invariant-loop-k l = record {
  extends : Extends l.fn.b l.b;
  wide : (signal l.b l.slots).width ≡ l.k;
  slots : Means l.b l.slots (bits_signal (same_at l.l (signal l.fn.b l.fn.addr)) (l.k - 1));
}
