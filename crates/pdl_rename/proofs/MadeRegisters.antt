-- The registers of a renaming lock as they are made, and that they stay.
use Rattle.std.proofs.Common.{◌≡◌, ℕ, ◌+◌, ◌-◌, ◌^◌, ◌<◌, ◌≤◌, ◌*◌, ◌∙◌, sym, ap, arith, ⊎_elim}
use Rattle.std.proofs.lemmas.Nat.{pow-add, pow_pos}
use Rattle.std.proofs.lemmas.Bool.{cases_lt}
use Rattle.pdl_net.specs.Circuit.{Circuit}
use Rattle.pdl_net.specs.Growth.{Extends, ExtendsBut, Own}
use Rattle.pdl_net.proofs.Keeps.{extends_keeps, but_keeps}
use Rattle.pdl_rename.specs.declared.layout.Layout.{Layout}
use Rattle.pdl_rename.specs.Places.{HasMap, HasStore, IsMapReset, map_at}
use Rattle.pdl_rename.specs.RenameGrowth.{map_keep, store_keep}
use Rattle.pdl_lock_ring.specs.Slots.{HasSlots}
use Rattle.pdl_lock_ring.specs.Registers.{HasRow, IsRowReset}
use Rattle.pdl_rename.specs.Nets.{registers_of_map, registers_of_places}

-- the registers of the map stay while the circuit grows
pub map_kept : (a b : Circuit) (l : Layout) (n : ℕ) → HasMap a l n → Extends a b → HasMap b l n
map_kept a b l n x y = map_keep a b l n x (extends_keeps a b y)

-- the registers of the map stay while those of a fragment are told what they take next
pub map_kept_but : (o : Own) (a b : Circuit) (l : Layout) (n : ℕ) → HasMap a l n → ExtendsBut o a b → HasMap b l n
map_kept_but o a b l n x y = map_keep a b l n x (but_keeps o a b y)

-- the array of a renaming lock stays while the circuit grows
pub store_kept : (a b : Circuit) (l : Layout) → HasStore a l → Extends a b → HasStore b l
store_kept a b l x y = store_keep a b l x (extends_keeps a b y)

-- the array of a renaming lock stays while a fragment is told what it takes next
pub store_kept_but : (o : Own) (a b : Circuit) (l : Layout) → HasStore a l → ExtendsBut o a b → HasStore b l
store_kept_but o a b l x y = store_keep a b l x (but_keeps o a b y)

-- the map and the places as rows of registers
pub map_there : (c : Circuit) (l : Layout) → HasMap c l l.depth → HasRow c (registers_of_map l) l.depth
map_there c l h = record { there = h.map_there; same = h.mapped; has = h.has_map; wide = h.map_wide }

-- the places of the slots are a row of registers that is there
pub places_there : (c : Circuit) (l : Layout) → HasSlots c l.slots → HasRow c (registers_of_places l) l.slots.size
places_there c l h = record { there = h.value_there; same = h.value; has = h.has_value; wide = h.value_wide }

-- the map of the row that was made for it
pub map_made : (c : Circuit) (l : Layout) → HasRow c (registers_of_map l) l.depth → HasMap c l l.depth
map_made c l r = record { map_there = r.there; mapped = r.same; has_map = r.has; map_wide = r.wide }

-- each register of the map holds its own address at reset, where its row was made so
pub map_reset_made : (c : Circuit) (l : Layout) → IsRowReset c (registers_of_map l) 0 1 l.depth → IsMapReset c l l.depth
map_reset_made c l r = record { places = λ a h. r.reset a h ∙ omega arith }

-- the reset values of the map's registers stay while the circuit grows
pub reset_kept : (c d : Circuit) (l : Layout) (n : ℕ) → HasMap c l n → IsMapReset c l n → Extends c d → IsMapReset d l n
reset_kept c d l n h r e = record { places = λ j lt. e.reset (map_at l j) (h.has_map j lt) ∙ r.places j lt }

-- the array's depth, and its place among the arrays
pub double : (b : ℕ) → 2 ^ (b + 1) ≡ 2 ^ b + 2 ^ b
double b = omega (arith, pow-add 2 b 1)

-- a depth up to 64 has at most 6 bits
pub few_bits : (b : ℕ) → 2 ^ b ≤ 64 → b ≤ 6
few_bits b h = ⊎_elim
    (λ (g : 6 < b).
    let d = b - 7 in
    let e : 7 + d ≡ b = omega arith in
    let p : 2 ^ b ≡ 2 ^ 7 * 2 ^ d = ap (λ n. 2 ^ n) (sym e) ∙ pow-add 2 7 d in
    absurd (omega (arith, p, pow_pos d)))
    (λ (g : b ≤ 6). g)
    (cases_lt 6 b)
