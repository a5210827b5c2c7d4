-- The law of a step of a renaming lock, in values alone.
use Rattle.std.proofs.Common.{◌≡◌, ◌≢◌, ℕ, zero, suc, ◌+◌, ◌-◌, ◌%◌, ◌^◌, ◌<◌, ◌≤◌, List, length, set, refl, sym, ap, ◌∙◌, subst, arith, ⊎_elim, length-set}
use Rattle.std.specs.Prelude.{◌==◌, if◌then◌else◌, Bool, true, false, slice_index}
use Rattle.std.proofs.lemmas.Bool.{cases_eq, cases_Bool, false≢true}
use Rattle.std.proofs.lemmas.Nat.{mod_below}
use Rattle.pdl_word.specs.Words as words
use Rattle.pdl_word.specs.Words.{bit}
use Rattle.pdl_net.specs.Circuit.{Circuit, State}
use Rattle.pdl_net.specs.Signal.{Signal, read_signal, reg_value, const_value, bin_value, mux_value, read_value}
use Rattle.pdl_lockapi.specs.Lock.{Entry, LockState, LockAct, act_at, entry_at, or_zero, filled_entries, next_base, committed, committed_words, step}
use Rattle.pdl_lockapi.specs.Laws.{StepSignals, IsNext, after_writes, ticket_at, reserve_at}
use Rattle.pdl_lock_ring.specs.Slots.{content_signal, value_at}
use Rattle.pdl_lock_ring.specs.Looks.{head_signal, slot_of}
use Rattle.pdl_lock_ring.specs.Steps as ring
use Rattle.pdl_lock_ring.specs.Steps.{number_at, written_slot, next_head, oldest_addr, next_addr, filled_value}
use Rattle.pdl_lock_ring.proofs.SlotNumbers.{apart}
use Rattle.pdl_lock_ring.proofs.RingValues.{if_one, if_other, if_true, if_false, test_bit, mux_one, mux_zero, eq_one, eq_none}
use Rattle.pdl_lock_ring.proofs.Fills.{content_place}
use Rattle.pdl_lock_ring.proofs.FilledSlots.{Cycle, length_filled, written_value, unwritten_value}
use Rattle.pdl_lock_ring.proofs.FilledSlots as filled
use Rattle.pdl_lock_ring.proofs.StepLaw as ended
use Rattle.pdl_lock_ring.proofs.StepLaw.{after_fill, filled_as, ticket_value, oldest_addr_is, next_addr_is, oldest_value_is, next_value_is, left, left_long, ValuesStay, entries_next}
use Rattle.pdl_rename.specs.declared.layout.Layout.{Layout}
use Rattle.pdl_rename.specs.Places.{IsRenaming, Stands, AreApart, AreBelow, map_at, store_of, word_place, slot_place, placed_signal}
use Rattle.pdl_rename.specs.Nets.{mapped_place, place_of, place_writes, one_put, stored_signal, oldest_place, next_place_of, oldest_value, next_value, freed_slot, freed2_slot, freed_place, freed2_place, NextRename, own_rename}
use Rattle.pdl_rename.proofs.ChoiceWidths.{mapped_is}
use Rattle.pdl_rename.proofs.ArrayPlaces.{bit_one, slot_apart, both_equal, writes-push, length-writes, written_here, written_there, AreExchanged, exchanged_apart, apart_same}
use Rattle.pdl_rename.proofs.AddressBounds.{asked_below, AllBelow, filled_below, step_below}

-- the addresses of the reserve ports have the bits of an address
pub record AddressesFit (bits : ℕ) (f : StepSignals) : Type 0 where
  pub addrs : (k : ℕ) → k < length f.reserves → (reserve_at f.reserves k).addr.width ≡ bits

-- what is known in a cycle of proper use
pub record Turn (l : Layout) (s : State) (x : LockState) (f : StepSignals) (a : LockAct) : Type 0 where
  pub renaming : IsRenaming l
  pub stands : Stands l s x
  pub cycle : Cycle l.slots (placed_signal l) s x f a
  pub addresses : AddressesFit l.slots.bits f

module _ (l : Layout) (s : State) (x : LockState) (f : StepSignals) (a : LockAct) (c : Turn l s x f a) where
  abbrev V : ℕ → Signal
  V = placed_signal l

  abbrev n : ℕ
  n = l.slots.size

  abbrev P : ℕ → ℕ
  P = slot_place l s

  abbrev M : ℕ → ℕ
  M = word_place l s

  abbrev xs : List Entry
  xs = filled_entries x a

  -- ---- the writes

  on_is : (j : ℕ) → j < length a.writes → (ticket_at f.writes j).enable.value s ≡ 1 → (act_at a.writes j).on ≡ true
  on_is j lt e = bit_one (act_at a.writes j).on (sym (c.cycle.drives.on j lt) ∙ e)

  off_is : (j : ℕ) → j < length a.writes → (ticket_at f.writes j).enable.value s ≢ 1 → (act_at a.writes j).on ≡ false
  off_is j lt e = ⊎_elim (λ (o : (act_at a.writes j).on ≡ true). absurd (e (c.cycle.drives.on j lt ∙ ap bit o))) (λ (o : (act_at a.writes j).on ≡ false). o) (cases_Bool (act_at a.writes j).on)

  -- the slot of a write
  abbrev at : ℕ → ℕ
  at j = (act_at a.writes j).ticket % n

  at_below : (j : ℕ) → at j < n
  at_below j = mod_below (act_at a.writes j).ticket n c.cycle.sized.some

  place_is : (j : ℕ) → j < length a.writes → (ticket_at f.writes j).enable.value s ≡ 1 → (place_of l f j).value s ≡ P (at j)
  unfolding reg_value
  place_is j lt e = ticket_value l.slots c.cycle.sized (content_signal l.slots) (ticket_at f.writes j).ticket s (act_at a.writes j).ticket (c.cycle.drives.ticket j lt (on_is j lt e))

  -- the array after the first j write ports
  abbrev stored : ℕ → List ℕ
  stored j = after_writes s (place_writes l f j) (store_of l s)

  stored_on : (j : ℕ) → (ticket_at f.writes j).enable.value s ≡ 1
      → stored (suc j) ≡ set (stored j) ((place_of l f j).value s) ((ticket_at f.writes j).value.value s)
  unfolding place_writes
  stored_on j e = writes-push s (place_writes l f j) (one_put l f j) (store_of l s) ∙ if_one ((ticket_at f.writes j).enable.value s) _ _ e

  stored_off : (j : ℕ) → (ticket_at f.writes j).enable.value s ≢ 1 → stored (suc j) ≡ stored j
  unfolding place_writes
  stored_off j e = writes-push s (place_writes l f j) (one_put l f j) (store_of l s) ∙ if_other ((ticket_at f.writes j).enable.value s) _ _ e

  -- the word at a slot's place after the first j write ports
  slot_word : (k : ℕ) → k < n → (j : ℕ) → j ≤ length a.writes → slice_index (stored j) (P k) ≡ (filled_value l.slots f (V k) (number_at l.slots k) j).value s
  unfolding place_writes filled_value mux_value bin_value const_value read_value
  slot_word k h zero le = refl
  slot_word k h (suc j) le =
      let ih = slot_word k h j (omega arith) in
      let lt : j < length a.writes = omega arith in
      let g = ticket_at f.writes j in
      let v = g.value.value s in
      let rest = (filled_value l.slots f (V k) (number_at l.slots k) j).value s in
      let w = (written_slot l.slots f j).value s in
      let p = c.stands.places in
      ⊎_elim
      (λ (o : g.enable.value s ≡ 1).
      let pl = place_is j lt o in
      let e = written_value l.slots V s x f a c.cycle j lt (on_is j lt o) in
      ap (λ ws. slice_index ws (P k)) (stored_on j o)
      ∙ ⊎_elim
      (λ (q : at j ≡ k). written_here (stored j) _ (P k) v (pl ∙ ap P q) (let r = length-writes s (place_writes l f j) (store_of l s) in omega (arith, r, c.stands.store, p.slots_in k h))
      ∙ sym (mux_one (words.equal w k) v rest (eq_one w k (e ∙ q))))
      (λ (q : at j ≢ k). written_there (stored j) _ (P k) v (λ r. q (sym (p.slots_apart k (at j) h (at_below j) (r ∙ pl)))) ∙ ih
      ∙ sym (mux_zero (words.equal w k) v rest (eq_none w k (λ r. q (sym e ∙ r)))))
      (cases_eq (at j) k))
      (λ (o : g.enable.value s ≢ 1).
      let e = unwritten_value l.slots V s x f a c.cycle j lt (off_is j lt o) in
      ap (λ ws. slice_index ws (P k)) (stored_off j o) ∙ ih ∙ sym (mux_zero (words.equal w k) v rest (eq_none w k (λ r. omega (arith, r, e, h)))))
      (cases_eq (g.enable.value s) 1)

  -- the word at an address's place
  other_word : (b : ℕ) → b < l.depth → (j : ℕ) → j ≤ length a.writes → slice_index (stored j) (M b) ≡ slice_index (store_of l s) (M b)
  unfolding place_writes
  other_word b h zero le = refl
  other_word b h (suc j) le =
      let lt : j < length a.writes = omega arith in
      let g = ticket_at f.writes j in
      ⊎_elim
      (λ (o : g.enable.value s ≡ 1).
      ap (λ ws. slice_index ws (M b)) (stored_on j o)
      ∙ written_there (stored j) _ (M b) (g.value.value s) (λ r. c.stands.places.apart b (at j) h (at_below j) (r ∙ place_is j lt o))
      ∙ other_word b h j (omega arith))
      (λ (o : g.enable.value s ≢ 1). ap (λ ws. slice_index ws (M b)) (stored_off j o) ∙ other_word b h j (omega arith))
      (cases_eq (g.enable.value s) 1)

  -- the addresses of the pending writes
  all_below : AreBelow l.depth (filled_entries x a)
  all_below =
      let d = c.cycle.drives in
      let fit : (k : ℕ) → k < length f.reserves → (reserve_at f.reserves k).enable.value s ≡ 1 → (reserve_at f.reserves k).addr.value s < l.depth
      = λ k h e. subst (λ m. (reserve_at f.reserves k).addr.value s < m) (ap (λ m. 2 ^ m) (c.addresses.addrs k h) ∙ sym c.renaming.depth) (d.fits k h e) in
      filled_below l.depth x a c.cycle.proper.two (subst (AllBelow l.depth) (sym d.reserves) (asked_below s l.depth f.reserves fit)) c.stands.below

  -- ---- what is released

  -- the slots of the two oldest pending writes
  abbrev k0 : ℕ
  k0 = x.base % n

  abbrev k1 : ℕ
  k1 = (x.base + 1) % n

  k0_below : k0 < n
  k0_below = mod_below x.base n c.cycle.sized.some

  k1_below : k1 < n
  k1_below = mod_below (x.base + 1) n c.cycle.sized.some

  abbrev e0 : Entry
  e0 = entry_at (filled_entries x a) 0

  abbrev e1 : Entry
  e1 = entry_at (filled_entries x a) 1

  addr0 : a.release ≡ true → (oldest_addr l.slots f).value s ≡ e0.addr
  addr0 o = oldest_addr_is l.slots V s x f a c.cycle o

  addr1 : a.release2 ≡ true → (next_addr l.slots f).value s ≡ e1.addr
  addr1 o = next_addr_is l.slots V s x f a c.cycle o

  below0 : a.release ≡ true → e0.addr < l.depth
  below0 o = all_below 0 (ended.there_first xs (c.cycle.proper.done o))

  below1 : a.release2 ≡ true → e1.addr < l.depth
  below1 o = all_below 1 (ended.there_second xs (c.cycle.proper.done2 o))

  -- two pending writes need two slots
  two_slots : a.release2 ≡ true → 2 ≤ n
  two_slots o = let q = ended.there_second xs (c.cycle.proper.done2 o) in let r = length_filled x a in omega (arith, q, r, c.cycle.proper.room)

  k1_other : a.release2 ≡ true → k1 ≢ k0
  k1_other o e = let q = apart n x.base 1 0 (let w = two_slots o in omega (arith, w)) (omega (arith, c.cycle.sized.some)) (e ∙ ap (λ m. m % n) (let z : x.base ≡ x.base + 0 = omega arith in z)) in omega (arith, q)

  -- their places
  place_of_slot : (t : Signal) (m : ℕ) → t.value s ≡ m % 2 ^ l.slots.ticket → (ring.content_of l.slots f t).value s ≡ P (m % n)
  place_of_slot t m e =
      ap (λ (g : Signal). g.value s) (content_place l.slots f (ring.at_ticket l.slots (content_signal l.slots) t) (slot_of l.slots t) c.renaming.place)
      ∙ ticket_value l.slots c.cycle.sized (content_signal l.slots) t s m e

  place0 : (oldest_place l f).value s ≡ P k0
  place0 = place_of_slot (head_signal l.slots) x.base (ended.head_value l.slots V s x f a c.cycle)

  place1 : (next_place_of l f).value s ≡ P k1
  place1 = place_of_slot (next_head l.slots) (x.base + 1) (ended.next_head_value l.slots V s x f a c.cycle)

  -- the slots that are released
  released0 : (freed_slot l f).value s ≡ (if a.release then k0 else n)
  unfolding mux_value const_value words.mux
  released0 =
      ap (λ t. if t then (slot_of l.slots (head_signal l.slots)).value s else n) (test_bit (f.release.value s) a.release c.cycle.drives.release)
      ∙ ap (λ m. if a.release then m else n) (filled.slot_value l.slots c.cycle.sized (head_signal l.slots) s x.base (ended.head_value l.slots V s x f a c.cycle))

  released1 : (freed2_slot l f).value s ≡ (if a.release2 then k1 else n)
  unfolding mux_value const_value words.mux
  released1 =
      ap (λ t. if t then (slot_of l.slots (next_head l.slots)).value s else n) (test_bit (f.release2.value s) a.release2 c.cycle.drives.release2)
      ∙ ap (λ m. if a.release2 then m else n) (filled.slot_value l.slots c.cycle.sized (next_head l.slots) s (x.base + 1) (ended.next_head_value l.slots V s x f a c.cycle))

  -- the places that become free
  freed0 : a.release ≡ true → (freed_place l f).value s ≡ M e0.addr
  freed0 o = mapped_is l c.renaming (oldest_addr l.slots f) s (let q = addr0 o in let r = below0 o in omega (arith, q, r)) ∙ ap M (addr0 o)

  -- ---- map and places after the releases, as functions

  -- after the first one
  abbrev M1 : ℕ → ℕ
  M1 b = words.mux (words.equal e0.addr b) (P k0) (M b)

  abbrev P1 : ℕ → ℕ
  P1 k = words.mux (words.equal k0 k) (M e0.addr) (P k)

  -- after both
  abbrev M2 : ℕ → ℕ
  M2 b = words.mux (words.equal e1.addr b) (P k1) (M1 b)

  abbrev P2 : ℕ → ℕ
  P2 k = words.mux (words.equal k1 k) (M1 e1.addr) (P1 k)

  exchange1 : AreExchanged l.depth n e0.addr k0 M P M1 P1
  exchange1 = record {
    here = mux_one (words.equal e0.addr e0.addr) (P k0) (M e0.addr) (eq_one e0.addr e0.addr refl);
    there = λ b h q. mux_zero (words.equal e0.addr b) (P k0) (M b) (eq_none e0.addr b (λ r. q (sym r)));
    freed = mux_one (words.equal k0 k0) (M e0.addr) (P k0) (eq_one k0 k0 refl);
    other = λ k h q. mux_zero (words.equal k0 k) (M e0.addr) (P k) (eq_none k0 k (λ r. q (sym r)));
  }

  kept1 : a.release2 ≡ true → P1 k1 ≡ P k1
  kept1 o = mux_zero (words.equal k0 k1) (M e0.addr) (P k1) (eq_none k0 k1 (λ r. k1_other o (sym r)))

  exchange2 : a.release2 ≡ true → AreExchanged l.depth n e1.addr k1 M1 P1 M2 P2
  exchange2 o = record {
    here = mux_one (words.equal e1.addr e1.addr) (P k1) (M1 e1.addr) (eq_one e1.addr e1.addr refl) ∙ sym (kept1 o);
    there = λ b h q. mux_zero (words.equal e1.addr b) (P k1) (M1 b) (eq_none e1.addr b (λ r. q (sym r)));
    freed = mux_one (words.equal k1 k1) (M1 e1.addr) (P1 k1) (eq_one k1 k1 refl);
    other = λ k h q. mux_zero (words.equal k1 k) (M1 e1.addr) (P1 k) (eq_none k1 k (λ r. q (sym r)));
  }

  freed1 : a.release2 ≡ true → (freed2_place l f).value s ≡ M1 e1.addr
  unfolding mux_value bin_value
  freed1 o =
      let r = c.cycle.proper.both o in
      let q0 = addr0 r in
      let q1 = addr1 o in
      let m1 : (mapped_place l (next_addr l.slots f)).value s ≡ M e1.addr = mapped_is l c.renaming (next_addr l.slots f) s (let b = below1 o in omega (arith, q1, b)) ∙ ap M q1 in
      let p0 = place0 in
      ap (λ m. words.mux m ((oldest_place l f).value s) ((mapped_place l (next_addr l.slots f)).value s)) (both_equal ((next_addr l.slots f).value s) e1.addr ((oldest_addr l.slots f).value s) e0.addr q1 q0)
      ∙ ap (λ m. words.mux (words.equal e0.addr e1.addr) m ((mapped_place l (next_addr l.slots f)).value s)) p0
      ∙ ap (λ m. words.mux (words.equal e0.addr e1.addr) (P k0) m) m1

  -- the map and the places that a cycle leaves
  abbrev pub map_left : ℕ → ℕ
  map_left b = if a.release2 then M2 b else if a.release then M1 b else M b

  -- the place of each slot after the cycle's releases
  abbrev pub places_left : ℕ → ℕ
  places_left k = if a.release2 then P2 k else if a.release then P1 k else P k

  apart_left : AreApart l.depth n map_left places_left
  apart_left = by a.release a.release2 refl refl
    where
      by : (t u : Bool) → a.release ≡ t → a.release2 ≡ u
          → AreApart l.depth n (λ b. if u then M2 b else if t then M1 b else M b) (λ k. if u then P2 k else if t then P1 k else P k)
      by t true p q = exchanged_apart l.depth n e1.addr k1 M1 P1 M2 P2 k1_below (below1 q) (exchange2 q) (exchanged_apart l.depth n e0.addr k0 M P M1 P1 k0_below (below0 (c.cycle.proper.both q)) exchange1 c.stands.places)
      by true false p q = exchanged_apart l.depth n e0.addr k0 M P M1 P1 k0_below (below0 p) exchange1 c.stands.places
      by false false p q = c.stands.places

  -- how many are left, and how many were taken out
  left_within : length (left l.slots V s x f a) + (next_base x a - x.base) ≤ n
  left_within =
      let low = ended.base_low a.release a.release2 x.base in
      let long = left_long l.slots V s x f a c.cycle in
      ⊎_elim
      (λ (e : a.squash ≡ true). let q = long ∙ if_true a.squash a.tail (x.base + length x.entries + length a.reserves) e in omega (arith, q, low, c.cycle.proper.tail_to e, c.cycle.proper.room))
      (λ (e : a.squash ≡ false). let q = long ∙ if_false a.squash a.tail (x.base + length x.entries + length a.reserves) e in omega (arith, q, low, c.cycle.proper.room))
      (cases_Bool a.squash)

  k0_is : k0 ≡ (x.base + 0) % n
  k0_is = ap (λ m. m % n) (omega arith)

  -- what is left keeps its place
  kept_place : (t u : Bool) (i : ℕ) → (u ≡ true → 2 + i < n) → (t ≡ true → 1 + i < n)
      → (if u then P2 ((x.base + 2 + i) % n) else if t then P1 ((x.base + 1 + i) % n) else P ((x.base + i) % n))
      ≡ (if u then P ((x.base + 2 + i) % n) else if t then P ((x.base + 1 + i) % n) else P ((x.base + i) % n))
  kept_place t true i h g =
      let k = (x.base + 2 + i) % n in
      mux_zero (words.equal k1 k) (M1 e1.addr) (P1 k) (eq_none k1 k (slot_apart n x.base 2 i 1 (omega arith) (h refl)))
      ∙ mux_zero (words.equal k0 k) (M e0.addr) (P k) (eq_none k0 k (λ r. slot_apart n x.base 2 i 0 (omega arith) (h refl) (sym k0_is ∙ r)))
  kept_place true false i h g =
      let k = (x.base + 1 + i) % n in
      mux_zero (words.equal k0 k) (M e0.addr) (P k) (eq_none k0 k (λ r. slot_apart n x.base 1 i 0 (omega arith) (g refl) (sym k0_is ∙ r)))
  kept_place false false i h g = refl

  spread : (t u : Bool) (i : ℕ) (F1 F2 F : ℕ → ℕ)
      → (if u then F2 (((if u then x.base + 2 else if t then x.base + 1 else x.base) + i) % n) else if t
      then F1 (((if u then x.base + 2 else if t then x.base + 1 else x.base) + i) % n)
      else F (((if u then x.base + 2 else if t then x.base + 1 else x.base) + i) % n))
      ≡ (if u then F2 ((x.base + 2 + i) % n) else if t then F1 ((x.base + 1 + i) % n) else F ((x.base + i) % n))
  spread t true i F1 F2 F = refl
  spread true false i F1 F2 F = refl
  spread false false i F1 F2 F = refl

  gather : (t u : Bool) (i : ℕ)
      → (if u then P ((x.base + 2 + i) % n) else if t then P ((x.base + 1 + i) % n) else P ((x.base + i) % n))
      ≡ P (((if u then x.base + 2 else if t then x.base + 1 else x.base) + i) % n)
  gather t true i = refl
  gather true false i = refl
  gather false false i = refl

  taken_out : (t u : Bool) (i : ℕ) → i + ((if u then x.base + 2 else if t then x.base + 1 else x.base) - x.base) < n
      → (u ≡ true → 2 + i < n) × ((u ≡ true → t ≡ true) → t ≡ true → 1 + i < n)
  taken_out t true i h = ((λ e. omega (arith, h)), (λ b e. omega (arith, h)))
  taken_out true false i h = ((λ e. absurd (false≢true e)), (λ b e. omega (arith, h)))
  taken_out false false i h = ((λ e. absurd (false≢true e)), (λ b e. absurd (false≢true e)))

  stays_left : (i : ℕ) → i < length (left l.slots V s x f a) → places_left ((next_base x a + i) % n) ≡ P ((next_base x a + i) % n)
  stays_left i lt =
      let out = taken_out a.release a.release2 i (let w = left_within in omega (arith, lt, w)) in
      spread a.release a.release2 i P1 P2 P ∙ kept_place a.release a.release2 i out.0 (out.1 c.cycle.proper.both) ∙ gather a.release a.release2 i

  -- ---- the next state

  module _ (b : Circuit) (t : State) (next : NextRename b l f) (i : IsNext b (own_rename l) s t) where
    place_next : (k : ℕ) → k < n
        → slot_place l t k
        ≡ words.mux (words.equal ((freed2_slot l f).value s) k) ((freed2_place l f).value s)
        (words.mux (words.equal ((freed_slot l f).value s) k) ((freed_place l f).value s) (P k))
    unfolding mux_value bin_value const_value reg_value
    place_next k h = i.regs (value_at l.slots k) (omega arith) (omega (arith, h)) ∙ ap (λ (g : Signal). g.value s) (next.places.place k h)

    -- the place of each slot is as the exchanges leave it
    places_are : (k : ℕ) → k < n → slot_place l t k ≡ places_left k
    places_are k h = place_next k h ∙ by a.release a.release2 refl refl
      where
        none : (w y z : ℕ) → w ≡ n → words.mux (words.equal w k) y z ≡ z
        none w y z e = mux_zero (words.equal w k) y z (eq_none w k (λ r. omega (arith, r, e, h)))

        by : (r q : Bool) → a.release ≡ r → a.release2 ≡ q
            → words.mux (words.equal ((freed2_slot l f).value s) k) ((freed2_place l f).value s)
            (words.mux (words.equal ((freed_slot l f).value s) k) ((freed_place l f).value s) (P k))
            ≡ (if q then P2 k else if r then P1 k else P k)
        by r true e u =
            let both = c.cycle.proper.both u in
            let w1 = released1 ∙ if_true a.release2 k1 n u in
            let w0 = released0 ∙ if_true a.release k0 n both in
            let v1 = freed1 u in
            let v0 = freed0 both in
            cc (w1, w0, v1, v0)
        by true false e u =
            let w0 = released0 ∙ if_true a.release k0 n e in
            let v0 = freed0 e in
            none ((freed2_slot l f).value s) _ _ (released1 ∙ if_false a.release2 k1 n u) ∙ cc (w0, v0)
        by false false e u = none ((freed2_slot l f).value s) _ _ (released1 ∙ if_false a.release2 k1 n u) ∙ none ((freed_slot l f).value s) _ _ (released0 ∙ if_false a.release k0 n e)

    word_next : (k : ℕ) → k < l.depth → word_place l t k
        ≡ (if f.release2.value s == 1 then words.mux (words.equal ((next_addr l.slots f).value s) k) ((next_place_of l f).value s) (if f.release.value s == 1 then words.mux (words.equal ((oldest_addr l.slots f).value s) k) ((oldest_place l f).value s) (M k) else M k)
        else (if f.release.value s == 1 then words.mux (words.equal ((oldest_addr l.slots f).value s) k) ((oldest_place l f).value s) (M k) else M k))
    unfolding mux_value bin_value const_value reg_value words.mux
    word_next k h = i.regs (map_at l k) (let z = c.renaming.map in omega (arith, z)) (let z = c.renaming.map in omega (arith, z, h)) ∙ ap (λ (g : Signal). g.value s) (next.map.map k h)

    -- and so is the place of each word
    words_are : (k : ℕ) → k < l.depth → word_place l t k ≡ map_left k
    words_are k h = word_next k h ∙ by a.release a.release2 refl refl
      where
        by : (r q : Bool) → a.release ≡ r → a.release2 ≡ q
            → (if f.release2.value s == 1
            then words.mux (words.equal ((next_addr l.slots f).value s) k) ((next_place_of l f).value s)
            (if f.release.value s == 1 then words.mux (words.equal ((oldest_addr l.slots f).value s) k) ((oldest_place l f).value s) (M k) else M k)
            else (if f.release.value s == 1 then words.mux (words.equal ((oldest_addr l.slots f).value s) k) ((oldest_place l f).value s) (M k) else M k)) ≡ (if q then M2 k else if r then M1 k else M k)
        by r true e u =
            let both = c.cycle.proper.both u in
            let t1 = c.cycle.drives.release2 ∙ ap bit u in
            let t0 = c.cycle.drives.release ∙ ap bit both in
            let q1 = addr1 u in
            let q0 = addr0 both in
            let p1 = place1 in
            let p0 = place0 in
            if_one (f.release2.value s) _ _ t1 ∙ ap (λ m. words.mux (words.equal ((next_addr l.slots f).value s) k) ((next_place_of l f).value s) m) (if_one (f.release.value s) _ _ t0) ∙ cc (q1, q0, p1, p0)
        by true false e u =
            let t1 = c.cycle.drives.release2 ∙ ap bit u in
            let t0 = c.cycle.drives.release ∙ ap bit e in
            let q0 = addr0 e in
            let p0 = place0 in
            if_other (f.release2.value s) _ _ (λ r. omega (arith, r, t1)) ∙ if_one (f.release.value s) _ _ t0 ∙ cc (q0, p0)
        by false false e u =
            let t1 = c.cycle.drives.release2 ∙ ap bit u in
            let t0 = c.cycle.drives.release ∙ ap bit e in
            if_other (f.release2.value s) _ _ (λ r. omega (arith, r, t1)) ∙ if_other (f.release.value s) _ _ (λ r. omega (arith, r, t0))

    -- the array in the next state
    store_next : store_of l t ≡ stored (length a.writes)
    store_next = i.arrays l.array (omega arith) (omega arith) ∙ ap (λ ps. after_writes s ps (store_of l s)) next.store ∙ ap stored (sym c.cycle.drives.count)

    filled_at : (k : ℕ) → k < n → slice_index (store_of l t) (P k) ≡ (after_fill l.slots f V k).value s
    filled_at k h = ap (λ ws. slice_index ws (P k)) store_next ∙ slot_word k h (length a.writes) (omega arith) ∙ ap (λ m. (filled_value l.slots f (V k) (number_at l.slots k) m).value s) c.cycle.drives.count

    unchanged_at : (k : ℕ) → k < l.depth → slice_index (store_of l t) (M k) ≡ slice_index x.words k
    unchanged_at k h = ap (λ ws. slice_index ws (M k)) store_next ∙ other_word k h (length a.writes) (omega arith) ∙ c.stands.words k h

    values_stay : ValuesStay l.slots V s x f a t
    unfolding read_value
    values_stay = record {
      stay = λ j lt.
          let k = (next_base x a + j) % n in
          let h : k < n = mod_below (next_base x a + j) n c.cycle.sized.some in
          ap (slice_index (store_of l t)) (places_are k h ∙ stays_left j lt) ∙ filled_at k h;
    }

    -- the values of the two oldest pending writes are in their places
    value0 : a.release ≡ true → slice_index (store_of l t) (P k0) ≡ or_zero e0.value
    value0 o = filled_at k0 k0_below ∙ sym (ticket_value l.slots c.cycle.sized (after_fill l.slots f V) (head_signal l.slots) s x.base (ended.head_value l.slots V s x f a c.cycle)) ∙ oldest_value_is l.slots V s x f a c.cycle o

    value1 : a.release2 ≡ true → slice_index (store_of l t) (P k1) ≡ or_zero e1.value
    value1 o = filled_at k1 k1_below ∙ sym (ticket_value l.slots c.cycle.sized (after_fill l.slots f V) (next_head l.slots) s (x.base + 1) (ended.next_head_value l.slots V s x f a c.cycle)) ∙ next_value_is l.slots V s x f a c.cycle o

    -- the words after the first release
    words_one : a.release ≡ true → (k : ℕ) → k < l.depth → slice_index (store_of l t) (M1 k) ≡ slice_index (committed xs 0 x.words) k
    words_one o k h = ⊎_elim
        (λ (e : e0.addr ≡ k).
        ap (slice_index (store_of l t)) (mux_one (words.equal e0.addr k) (P k0) (M k) (eq_one e0.addr k e)) ∙ value0 o
        ∙ sym (written_here x.words e0.addr k (or_zero e0.value) e (let w = c.stands.whole in omega (arith, w, h))))
        (λ (e : e0.addr ≢ k).
        ap (slice_index (store_of l t)) (mux_zero (words.equal e0.addr k) (P k0) (M k) (eq_none e0.addr k e)) ∙ unchanged_at k h
        ∙ sym (written_there x.words e0.addr k (or_zero e0.value) (λ r. e (sym r))))
        (cases_eq e0.addr k)

    words_two : a.release2 ≡ true → (k : ℕ) → k < l.depth → slice_index (store_of l t) (M2 k) ≡ slice_index (committed xs 1 (committed xs 0 x.words)) k
    words_two o k h = ⊎_elim
        (λ (e : e1.addr ≡ k).
        ap (slice_index (store_of l t)) (mux_one (words.equal e1.addr k) (P k1) (M1 k) (eq_one e1.addr k e)) ∙ value1 o
        ∙ sym (written_here (committed xs 0 x.words) e1.addr k (or_zero e1.value) e (let w = c.stands.whole in let q = length-set x.words e0.addr (or_zero e0.value) in omega (arith, w, q, h))))
        (λ (e : e1.addr ≢ k).
        ap (slice_index (store_of l t)) (mux_zero (words.equal e1.addr k) (P k1) (M1 k) (eq_none e1.addr k e)) ∙ words_one (c.cycle.proper.both o) k h
        ∙ sym (written_there (committed xs 0 x.words) e1.addr k (or_zero e1.value) (λ r. e (sym r))))
        (cases_eq e1.addr k)

    words_next : (k : ℕ) → k < l.depth → slice_index (store_of l t) (word_place l t k) ≡ slice_index (committed_words a (filled_entries x a) x.words) k
    words_next k h = ap (slice_index (store_of l t)) (words_are k h) ∙ by a.release a.release2 refl refl
      where
        by : (r q : Bool) → a.release ≡ r → a.release2 ≡ q
            → slice_index (store_of l t) (if q then M2 k else if r then M1 k else M k)
            ≡ slice_index (if q then committed xs 1 (committed xs 0 x.words) else if r then committed xs 0 x.words else x.words) k
        by r true e u = words_two u k h
        by true false e u = words_one e k h
        by false false e u = unchanged_at k h

    length_committed : length (committed_words a (filled_entries x a) x.words) ≡ length x.words
    length_committed = by a.release a.release2
      where
        by : (r q : Bool) → length (if q then committed xs 1 (committed xs 0 x.words) else if r then committed xs 0 x.words else x.words) ≡ length x.words
        by r true = length-set (committed xs 0 x.words) e1.addr (or_zero e1.value) ∙ length-set x.words e0.addr (or_zero e0.value)
        by true false = length-set x.words e0.addr (or_zero e0.value)
        by false false = refl

    -- in the next state the registers and the array stand for the pending writes and the words of the step
    pub stands_next : Stands l t (step x a)
    stands_next = record {
      entries = entries_next l.slots V s x f a b (own_rename l) t c.cycle (record { from = omega arith; to = omega arith; addrs = next.addrs; bits = next.bits; ends = next.ends }) i values_stay;
      below = step_below l.depth x a all_below;
      whole = length_committed ∙ c.stands.whole;
      store = ap length store_next ∙ length-writes s (place_writes l f (length a.writes)) (store_of l s) ∙ c.stands.store;
      places = apart_same l.depth n map_left places_left (word_place l t) (slot_place l t) words_are places_are apart_left;
      words = words_next;
    }

  -- ---- the commits

  -- the word of a slot after the write ports is what its place gets
  stored_is : (slot place : Signal) (k : ℕ) → slot.value s ≡ k → place.value s ≡ P k
      → (stored_signal l f place slot).value s ≡ (after_fill l.slots f V k).value s
  unfolding const_value read_value
  stored_is slot place k e p =
      filled_as l.slots f s (read_signal l.slots.width l.array place) (V k) slot (number_at l.slots k) (length f.writes) (ap (slice_index (store_of l s)) p) e

  -- where a write is released, the net of its value has the oldest pending write's value
  pub commit0 : a.release ≡ true → (oldest_value l f).value s ≡ or_zero e0.value
  commit0 o =
      stored_is (slot_of l.slots (head_signal l.slots)) (oldest_place l f) k0 (filled.slot_value l.slots c.cycle.sized (head_signal l.slots) s x.base (ended.head_value l.slots V s x f a c.cycle)) place0
      ∙ sym (ticket_value l.slots c.cycle.sized (after_fill l.slots f V) (head_signal l.slots) s x.base (ended.head_value l.slots V s x f a c.cycle)) ∙ oldest_value_is l.slots V s x f a c.cycle o

  -- where a second write is released, the net of its value has the second oldest pending write's value
  pub commit1 : a.release2 ≡ true → (next_value l f).value s ≡ or_zero e1.value
  commit1 o =
      stored_is (slot_of l.slots (next_head l.slots)) (next_place_of l f) k1 (filled.slot_value l.slots c.cycle.sized (next_head l.slots) s (x.base + 1) (ended.next_head_value l.slots V s x f a c.cycle)) place1
      ∙ sym (ticket_value l.slots c.cycle.sized (after_fill l.slots f V) (next_head l.slots) s (x.base + 1) (ended.next_head_value l.slots V s x f a c.cycle)) ∙ next_value_is l.slots V s x f a c.cycle o
