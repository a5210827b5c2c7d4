-- What the calls of a step are given: the ring in a circuit, the step's ports, and the nets of its reservations.
use Rattle.std.specs.Prelude.{◌≡◌}
use Rattle.pdl_net.specs.Circuit.{Circuit}
use Rattle.pdl_net.specs.Meaning.{Means, signal}
use Rattle.pdl_lockapi.specs.declared.LockPorts.{LockPorts}
use Rattle.pdl_lockapi.specs.Laws.{PortsThere, PortsFit, step_signals}
use Rattle.pdl_lock_ring.specs.declared.layout.RingLayout.{RingLayout}
use Rattle.pdl_lock_ring.specs.declared.taken.Taken.{Taken}
use Rattle.pdl_lock_ring.specs.Slots.{IsSized, HasSlots}
use Rattle.pdl_lock_ring.specs.Steps.{pushes, pushes2, first_addr, second_addr, first_slot, second_slot}

-- the ring is in a circuit, and so are the nets of a step's ports
pub record HasPorts (c : Circuit) (l : RingLayout) (p : LockPorts) : Type 0 where
  pub sized : IsSized l
  pub slots : HasSlots c l
  pub ports : PortsThere c p
  pub fit : PortsFit c l.bits l.width l.ticket p

-- the ring is in a circuit, and so are the nets of a step's ports and those of a cycle's reservations
pub record IsReady (c : Circuit) (l : RingLayout) (p : LockPorts) (t : Taken) : Type 0 where
  pub given : HasPorts c l p
  pub one : Means c t.one (pushes (step_signals c p))
  pub two : Means c t.two (pushes2 (step_signals c p))
  pub first : Means c t.first (first_addr l (step_signals c p))
  pub second : Means c t.second (second_addr l (step_signals c p))
  pub first_slot : Means c t.first_slot (first_slot l (step_signals c p))
  pub second_slot : Means c t.second_slot (second_slot l (step_signals c p))
  pub first_wide : (signal c t.first).width ≡ l.bits
  pub second_wide : (signal c t.second).width ≡ l.bits
  pub first_slot_wide : (signal c t.first_slot).width ≡ l.ticket
  pub second_slot_wide : (signal c t.second_slot).width ≡ l.ticket
