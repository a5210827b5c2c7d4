-- The calls of a renaming lock's step in turn, and what they leave.
use Rattle.std.proofs.Common.{◌≡◌, ℕ, [], ◌+◌, ◌*◌, ◌<◌, ◌≤◌, inl, inr, ◌∙◌, arith, ⊎_elim}
use Rattle.pdl_net.specs.Circuit.{Circuit}
use Rattle.pdl_net.specs.Meaning.{write_signals}
use Rattle.pdl_net.specs.Growth.{Own, Outside, Keeps, ExtendsBut}
use Rattle.pdl_net.proofs.Keeps.{means_keeps}
use Rattle.pdl_lockapi.specs.declared.LockNets.{LockNets}
use Rattle.pdl_lockapi.specs.Laws.{StepSignals}
use Rattle.pdl_lock_ring.specs.Slots.{HasSlots, value_at}
use Rattle.pdl_lock_ring.specs.Steps.{own_row, own_slots, own_ends, own_contents}
use Rattle.pdl_lock_ring.proofs.RingGrowth.{but_wider, wide_later}
use Rattle.pdl_rename.specs.declared.layout.Layout.{Layout}
use Rattle.pdl_rename.specs.Places.{IsRenaming, HasMap, HasStore, map_at}
use Rattle.pdl_rename.specs.Nets.{NextMap, NextPlaces, AreRenamed, own_map, own_store, own_rename}

-- what a part of the lock's registers, or the array, takes next
row_in_rename : (l : Layout) (from n : ℕ) (a b : Circuit)
    → l.slots.from ≤ from → from + n ≤ l.slots.from + (2 + 3 * l.slots.size + l.depth) → ExtendsBut (own_row from n) a b
    → ExtendsBut (own_rename l) a b
row_in_rename l from n a b lo hi x = but_wider (own_row from n) (own_rename l) a b
    (λ k o. ⊎_elim (λ (h : k < l.slots.from). inl (omega (arith, h, lo)))
    (λ (h : l.slots.from + (2 + 3 * l.slots.size + l.depth) ≤ k). inr (omega (arith, h, hi))) o)
    (λ m o. inr (omega arith)) x

-- a change of what the array alone takes next is one of what the whole lock takes next
pub store_in_rename : (l : Layout) (a b : Circuit) → ExtendsBut (own_store l) a b → ExtendsBut (own_rename l) a b
store_in_rename l a b x = but_wider (own_store l) (own_rename l) a b (λ r o. inr (omega arith)) (λ m o. o) x

-- a circuit that extends one but for the slots' registers extends it but for those of the renaming lock
pub slots_in_rename : (l : Layout) (a b : Circuit) → ExtendsBut (own_slots l.slots) a b → ExtendsBut (own_rename l) a b
slots_in_rename l a b x = row_in_rename l (l.slots.from + 2) (2 * l.slots.size) a b (omega arith) (omega arith) x

-- a change of what head and tail take next is one of what the whole lock takes next
pub ends_in_rename : (l : Layout) (a b : Circuit) → ExtendsBut (own_ends l.slots) a b → ExtendsBut (own_rename l) a b
ends_in_rename l a b x = row_in_rename l l.slots.from 2 a b (omega arith) (omega arith) x

-- a change of what the slots' places take next is one of what the whole lock takes next
pub places_in_rename : (l : Layout) (a b : Circuit) → ExtendsBut (own_contents l.slots) a b → ExtendsBut (own_rename l) a b
places_in_rename l a b x = row_in_rename l (l.slots.from + 2 + 2 * l.slots.size) l.slots.size a b (omega arith) (omega arith) x

-- a change of what the map takes next is one of what the whole lock takes next, in a sized layout
pub map_in_rename : (l : Layout) (a b : Circuit) → IsRenaming l → ExtendsBut (own_map l) a b → ExtendsBut (own_rename l) a b
map_in_rename l a b z x = row_in_rename l l.map l.depth a b (omega (arith, z.map)) (omega (arith, z.map)) x

-- nothing writes the array after a change of registers alone
pub stays_empty : (o : Own) (a b : Circuit) (l : Layout)
    → o.last ≡ 0 → HasStore a l → ExtendsBut o a b → write_signals a l.array ≡ [] → write_signals b l.array ≡ []
stays_empty o a b l z h x e = x.writes l.array h.has_store (inr (omega (arith, z))) ∙ e

-- what the slots' places take next stays as it is in a change that leaves their registers out
pub places_stay : (o : Own) (a b : Circuit) (l : Layout) (f : StepSignals)
    → ((k : ℕ) → k < l.slots.size → Outside o.from o.to (value_at l.slots k)) → HasSlots a l.slots
    → NextPlaces a l f l.slots.size → ExtendsBut o a b → NextPlaces b l f l.slots.size
places_stay o a b l f out h x y = record { place = λ k lt. y.nexts (value_at l.slots k) (h.has_value k lt) (out k lt) ∙ x.place k lt }

-- what the map's registers take next stays as it is in a change that leaves them out
pub map_stays : (o : Own) (a b : Circuit) (l : Layout) (f : StepSignals)
    → ((k : ℕ) → k < l.depth → Outside o.from o.to (map_at l k)) → HasMap a l l.depth → NextMap a l f l.depth
    → ExtendsBut o a b → NextMap b l f l.depth
map_stays o a b l f out h x y = record { map = λ k lt. y.nexts (map_at l k) (h.has_map k lt) (out k lt) ∙ x.map k lt }

-- the nets of the commit ports keep their meaning and widths when more is added to a circuit
pub renamed_keep : (a b : Circuit) (l : Layout) (f : StepSignals) (n : LockNets) → AreRenamed a l f n → Keeps a b → AreRenamed b l f n
renamed_keep a b l f n c k = record {
  commit = means_keeps a b n.commit _ k c.commit;
  addr = means_keeps a b n.addr _ k c.addr;
  value = means_keeps a b n.value _ k c.value;
  commit2 = means_keeps a b n.commit2 _ k c.commit2;
  addr2 = means_keeps a b n.addr2 _ k c.addr2;
  value2 = means_keeps a b n.value2 _ k c.value2;
  addr_wide = wide_later a b n.addr _ l.slots.bits k c.addr c.addr_wide;
  value_wide = wide_later a b n.value _ l.slots.width k c.value c.value_wide;
  addr2_wide = wide_later a b n.addr2 _ l.slots.bits k c.addr2 c.addr2_wide;
  value2_wide = wide_later a b n.value2 _ l.slots.width k c.value2 c.value2_wide;
}
