use Rattle.std.proofs.Common.{refl}
use Rattle.pdl_locks.proofs.facts.LockFacts.of.Goals as goal

pub returns : goal.returns
returns c = record {
  by_text = c.in_ok-stages.ensures;
  locations = record { own = refl; numbers = c.in_ok-locations.ensures };
  memories = record { own = refl; numbers = c.in_ok-memories.ensures };
  released = c.in_ok-last.ensures;
}
