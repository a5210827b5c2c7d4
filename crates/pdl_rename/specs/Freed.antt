-- The nets of what a cycle's releases set free.
use Rattle.std.specs.Prelude.{◌≡◌}
use Rattle.pdl_net.specs.Circuit.{Circuit}
use Rattle.pdl_net.specs.Meaning.{Means, signal}
use Rattle.pdl_lockapi.specs.Laws.{StepSignals}
use Rattle.pdl_rename.specs.declared.layout.Layout.{Layout}
use Rattle.pdl_rename.specs.declared.places.Freed.{Freed}
use Rattle.pdl_rename.specs.Nets.{freed_slot, freed2_slot, freed_place, freed2_place}

-- the slots that are released, and the places that become free
pub record AreFreed (c : Circuit) (l : Layout) (f : StepSignals) (x : Freed) : Type 0 where
  pub slot : Means c x.slot (freed_slot l f)
  pub place : Means c x.place (freed_place l f)
  pub slot2 : Means c x.slot2 (freed2_slot l f)
  pub place2 : Means c x.place2 (freed2_place l f)
  pub slot_wide : (signal c x.slot).width ≡ l.slots.ticket
  pub place_wide : (signal c x.place).width ≡ l.slots.kept
  pub slot2_wide : (signal c x.slot2).width ≡ l.slots.ticket
  pub place2_wide : (signal c x.place2).width ≡ l.slots.kept
