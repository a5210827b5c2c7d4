use Rattle.std.proofs.Common.{◌≡◌}
use Rattle.pdl_lock_ring.specs.Slots.{slots_of}
use Rattle.pdl_lock_ring.proofs.state.slots.Given as goal

abbrev pub invariant-loop-k : goal.invariant-loop-k
invariant-loop-k l = l.found ≡ slots_of l.l l.k
