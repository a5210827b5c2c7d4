use Rattle.std.proofs.Common.{◌≡◌}
use Rattle.pdl_lock_ring.specs.Slots.{numbers_from}
use Rattle.pdl_lock_ring.proofs.state.numbers.Given as goal

abbrev pub invariant-loop-k : goal.invariant-loop-k
invariant-loop-k l = l.found ≡ numbers_from l.from l.k
