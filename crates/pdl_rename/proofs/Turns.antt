-- The loops of a renaming lock's step, one turn after the other.
use Rattle.std.proofs.Common.{◌≡◌, ℕ, ◌+◌, ◌<◌, ◌++◌, [], ◌∷◌, refl, ap, subst, inl, ◌∙◌, arith, add-one}
use Rattle.pdl_net.specs.Circuit.{Circuit}
use Rattle.pdl_net.specs.Meaning.{next_signal}
use Rattle.pdl_net.specs.Growth.{Keeps, ExtendsBut}
use Rattle.pdl_net.proofs.Keeps.{means_keeps}
use Rattle.pdl_lockapi.specs.Laws.{StepSignals}
use Rattle.pdl_lock_ring.specs.Slots.{HasSlots, value_at}
use Rattle.pdl_lock_ring.specs.Steps.{own_reg}
use Rattle.pdl_lock_ring.proofs.RingGrowth.{wide_later}
use Rattle.pdl_rename.specs.declared.layout.Layout.{Layout}
use Rattle.pdl_rename.specs.declared.places.Freed.{Freed}
use Rattle.pdl_rename.specs.Places.{HasMap, map_at}
use Rattle.pdl_rename.specs.Nets.{NextMap, NextPlaces, next_map, next_place, place_writes, one_put}
use Rattle.pdl_rename.specs.Freed.{AreFreed}
use Rattle.pdl_word.proofs.Numbers.{upto}

-- what the releases set free stays so
pub freed_later : (a b : Circuit) (l : Layout) (f g : StepSignals) (x : Freed) → f ≡ g → Keeps a b → AreFreed a l f x → AreFreed b l g x
freed_later a b l f g x e y i = subst (λ h. AreFreed b l h x) e (record {
  slot = means_keeps a b x.slot _ y i.slot;
  place = means_keeps a b x.place _ y i.place;
  slot2 = means_keeps a b x.slot2 _ y i.slot2;
  place2 = means_keeps a b x.place2 _ y i.place2;
  slot_wide = wide_later a b x.slot _ l.slots.ticket y i.slot i.slot_wide;
  place_wide = wide_later a b x.place _ l.slots.kept y i.place i.place_wide;
  slot2_wide = wide_later a b x.slot2 _ l.slots.ticket y i.slot2 i.slot2_wide;
  place2_wide = wide_later a b x.place2 _ l.slots.kept y i.place2 i.place2_wide;
})

-- before the first turn no register of the map is told what it takes next
pub map_none : (c : Circuit) (l : Layout) (f : StepSignals) → NextMap c l f 0
map_none c l f = record { map = λ k h. absurd (omega arith) }

-- with one register of the map more told what it takes next, the first k + 1 are
pub map_more : (a b : Circuit) (l : Layout) (f : StepSignals) (k : ℕ)
    → k < l.depth → HasMap a l l.depth → NextMap a l f k → ExtendsBut (own_reg (map_at l k)) a b
    → next_signal b (map_at l k) ≡ next_map l f k → NextMap b l f (k + 1)
map_more a b l f k h s x y e =
    record {
      map = upto (λ j. next_signal b (map_at l j) ≡ next_map l f j) k e
          (λ j lt. y.nexts (map_at l j) (s.has_map j (omega (arith, lt, h))) (inl (omega (arith, lt))) ∙ x.map j lt);
    }

-- before the first turn no slot's place is told what it takes next
pub places_none : (c : Circuit) (l : Layout) (f : StepSignals) → NextPlaces c l f 0
places_none c l f = record { place = λ k h. absurd (omega arith) }

-- with one slot's place more told what it takes next, the first k + 1 are
pub places_more : (a b : Circuit) (l : Layout) (f : StepSignals) (k : ℕ)
    → k < l.slots.size → HasSlots a l.slots → NextPlaces a l f k → ExtendsBut (own_reg (value_at l.slots k)) a b
    → next_signal b (value_at l.slots k) ≡ next_place l f k → NextPlaces b l f (k + 1)
places_more a b l f k h s x y e =
    record {
      place = upto (λ j. next_signal b (value_at l.slots j) ≡ next_place l f j) k e
          (λ j lt. y.nexts (value_at l.slots j) (s.has_value j (omega (arith, lt, h))) (inl (omega (arith, lt))) ∙ x.place j lt);
    }

-- of no write ports the array has no ports
pub puts_none : (l : Layout) (f : StepSignals) → place_writes l f 0 ≡ []
unfolding place_writes
puts_none l f = refl

-- with one write port more the array has one port more
pub puts_more : (l : Layout) (f : StepSignals) (j : ℕ) → place_writes l f (j + 1) ≡ place_writes l f j ++ one_put l f j ∷ []
unfolding place_writes
puts_more l f j = ap (place_writes l f) (add-one j)
