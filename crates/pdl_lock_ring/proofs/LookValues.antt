-- What looks show: of a queue, and of the youngest older pending write.
use Rattle.std.proofs.Common.{◌≡◌, ◌≢◌, ℕ, ◌+◌, ◌-◌, ◌%◌, ◌^◌, ◌<◌, ◌≤◌, inl, inr, min, List, length, take, refl, sym, ap, ◌∙◌, subst, arith, ⊎_elim, length-take, get_or-take, ne_eqb}
use Rattle.std.specs.Prelude.{true, not, nat_lt, Option, Some, None, is_some, option_map, slice_index, slice_index_or, []}
use Rattle.std.specs.Int.{bit_at}
use Rattle.std.proofs.lemmas.Bool.{cases_lt, cases_eq, false≢true}
use Rattle.std.proofs.lemmas.List.{take_all}
use Rattle.std.proofs.lemmas.Nat.{mod_below, pow_below}
use Rattle.std.proofs.lemmas.Nat.Bits.{bit_at_and, bit_at-pow_same, bit_at-pow_other, same_from_bits_below}
use Rattle.pdl_word.specs.Words as words
use Rattle.pdl_word.specs.Words.{bit}
use Rattle.pdl_word.proofs.Bounds.{and_below, equal_below}
use Rattle.pdl_word.proofs.Laws.{differ_same}
use Rattle.pdl_net.specs.declared.Net.{Net}
use Rattle.pdl_net.specs.Circuit.{Circuit, State}
use Rattle.pdl_net.specs.Meaning.{Means, signal}
use Rattle.pdl_net.specs.Signal.{Signal, reg_signal, reg_value, const_value, bin_value, mux_value, read_value}
use Rattle.pdl_net.specs.HasWidth.{HasWidth}
use Rattle.pdl_net.proofs.KeptWidths.{width_meant}
use Rattle.pdl_lockapi.specs.Lock.{Entry, LockState, entry_at, no_entry, or_zero, is_free, youngest, older, next_ticket}
use Rattle.pdl_lockapi.specs.Laws.{HasWords, HasValueNet}
use Rattle.pdl_lock_ring.specs.declared.layout.RingLayout.{RingLayout}
use Rattle.pdl_lock_ring.specs.Slots.{IsSized, HasEntries, addr_at}
use Rattle.pdl_lock_ring.specs.Looks.{older_slots, same_at, same_slots, hit_slots, is_found, ready_signal, young_slots, wins_at, won_at, won_signal, has_signal, youngest_ready, youngest_value, GivesWord}
use Rattle.pdl_lock_ring.proofs.SlotNumbers.{apart}
use Rattle.pdl_lock_ring.proofs.RingValues.{mux_one, mux_zero, eq_one, eq_none}
use Rattle.pdl_lock_ring.proofs.SlotBits.{AreBits, bits_few, bits_at, word_none, word_some}
use Rattle.pdl_lock_ring.proofs.SlotWords.{young_bit}
use Rattle.pdl_lock_ring.proofs.Trees.{either_one, either_width}
use Rattle.pdl_lock_ring.proofs.Turns.{less_is, less_not}
use Rattle.pdl_lock_ring.proofs.LookMeanings.{Seeks, IsSlotOf, slot_has, same_value, IsYoungest, HasNone, youngest_of}

-- an optional number that is there is the one that `or_zero` gives
pub some_of : (o : Option ℕ) → is_some o ≡ true → o ≡ Some (or_zero o)
some_of None h = absurd (cc h)
some_of (Some v) h = refl

-- words of which one has a bit that the other has not
other_bit : (u v k : ℕ) → bit_at u k ≡ 1 → bit_at v k ≡ 0 → u ≢ v
other_bit u v k one none e = let q = ap (λ n. bit_at n k) e in absurd (omega (arith, one, none, q))

-- a slot has the address or not
are_bits : (l : RingLayout) (a : Signal) (s : State) → AreBits (same_at l a) s
unfolding bin_value
are_bits l a s = record { one = λ k. refl; few = λ k. equal_below ((reg_signal l.bits (addr_at l k)).value s) (a.value s) }

-- all slots of a tree
slots_all : (l : RingLayout) → IsSized l → 0 + 2 ^ (l.ticket - 1) ≡ l.size
slots_all l z = omega (arith, z.power)

module _ (l : RingLayout) (g : ℕ → Signal) (s : State) (x : LockState) (a t : Signal) (d : ℕ) (z : IsSized l)
    (h : HasEntries l g s x) (k : Seeks l s x t d) where
  -- the i-th of the older ones
  abbrev ys : List Entry
  ys = take d x.entries

  count : length ys ≡ d
  count = let n = length-take d x.entries in omega (arith, n, k.few)

  entry_is : (i : ℕ) → i < d → entry_at ys i ≡ entry_at x.entries i
  entry_is i lt = get_or-take d x.entries i no_entry lt

  -- ---- the slots that are hit

  same_bit : (i j : ℕ) → IsSlotOf l x j i → i < d → j < l.size
      → bit_at ((same_slots l a).value s) j ≡ words.equal (entry_at x.entries i).addr (a.value s)
  unfolding same_slots
  same_bit i j o lt jn =
      bits_at (same_at l a) s (are_bits l a s) (l.size - 1) j (omega (arith, jn))
      ∙ same_value l g s x a j i h o (omega (arith, lt, k.few))

  same_few : (same_slots l a).value s < 2 ^ l.size
  unfolding same_slots
  same_few =
      let b = bits_few (same_at l a) s (are_bits l a s) (l.size - 1) in
      let e : l.size - 1 + 1 ≡ l.size = omega (arith, z.some) in
      let p : 2 ^ (l.size - 1 + 1) ≡ 2 ^ l.size = ap (λ v. 2 ^ v) e in
      omega (arith, b, p)

  -- the slot of the i-th pending write
  abbrev slot : ℕ → ℕ
  slot i = (x.base + i) % l.size

  slot_in : (i : ℕ) → slot i < l.size
  slot_in i = mod_below (x.base + i) l.size z.some

  is_slot : (i : ℕ) → i < l.size → IsSlotOf l x (slot i) i
  is_slot i lt = record { below = lt; same = refl }

  hit_bit : (j : ℕ) → bit_at ((hit_slots l a t).value s) j ≡ min (bit_at ((same_slots l a).value s) j) (bit_at ((older_slots l t).value s) j)
  unfolding hit_slots bin_value words.and
  hit_bit j = bit_at_and ((same_slots l a).value s) ((older_slots l t).value s) j

  hit_few : (hit_slots l a t).value s < 2 ^ l.size
  unfolding hit_slots bin_value
  hit_few = and_below l.size ((same_slots l a).value s) ((older_slots l t).value s) same_few

  hit_one : (i : ℕ) → i < d → (entry_at x.entries i).addr ≡ a.value s → bit_at ((hit_slots l a t).value s) (slot i) ≡ 1
  hit_one i lt e =
      let il : i < l.size = omega (arith, lt, k.few, h.slots.room) in
      let p = same_bit i (slot i) (is_slot i il) lt (slot_in i) ∙ eq_one (entry_at x.entries i).addr (a.value s) e in
      let q = k.older i il ∙ less_is i d lt in
      let r = hit_bit (slot i) in
      omega (arith, p, q, r)

  -- a slot that is hit is that of an older pending write of the address
  hit_zero : (i : ℕ) → i < l.size → (i < d → (entry_at x.entries i).addr ≢ a.value s) → bit_at ((hit_slots l a t).value s) (slot i) ≡ 0
  hit_zero i il none =
      let r = hit_bit (slot i) in
      ⊎_elim
      (λ (q : i < d).
      let p = same_bit i (slot i) (is_slot i il) q (slot_in i) ∙ eq_none (entry_at x.entries i).addr (a.value s) (none q) in
      omega (arith, p, r))
      (λ (q : d ≤ i). let p = k.older i il ∙ less_not i d q in omega (arith, p, r))
      (cases_lt i d)

  hit_none : HasNone ys (a.value s) → (hit_slots l a t).value s ≡ 0
  hit_none n = word_none l.size ((hit_slots l a t).value s) hit_few (λ j lt.
      let o = slot_has l x j lt in
      ap (bit_at ((hit_slots l a t).value s)) (sym o.1.same)
      ∙ hit_zero o.0 o.1.below (λ u e. n o.0 (omega (arith, u, count)) (ap (λ (y : Entry). y.addr) (entry_is o.0 u) ∙ e)))

  -- the youngest one of the address among the older ones
  the_same : (i : ℕ) → IsYoungest ys (a.value s) i → (entry_at x.entries i).addr ≡ a.value s
  the_same i y = ap (λ (e : Entry). e.addr) (sym (entry_is i (omega (arith, y.within, count)))) ∙ y.same

  hit_some : (i : ℕ) → IsYoungest ys (a.value s) i → (hit_slots l a t).value s ≢ 0
  hit_some i y = word_some ((hit_slots l a t).value s) (slot i) (hit_one i (omega (arith, y.within, count)) (the_same i y))

  -- ---- a queue

  -- a look's net is 1 just where no older pending write has the address
  pub free_looked : (ready_signal l a t).value s ≡ bit (is_free ys (a.value s))
  unfolding bin_value const_value
  free_looked = elim (youngest_of ys (a.value s)) [
    | inl y ↦ eq_none ((hit_slots l a t).value s) 0 (hit_some y.0 y.1) ∙ ap bit (sym y.3)
    | inr n ↦ eq_one ((hit_slots l a t).value s) 0 (hit_none n.0) ∙ ap bit (sym n.2)
  ]

  -- ---- the youngest older one

  -- the hits among slot j and the younger ones
  abbrev seen : ℕ → ℕ
  seen j = words.and ((hit_slots l a t).value s) ((young_slots l j).value s)

  seen_few : (j : ℕ) → seen j < 2 ^ l.size
  seen_few j = and_below l.size ((hit_slots l a t).value s) ((young_slots l j).value s) hit_few

  seen_at : (j k : ℕ) → bit_at (seen j) k ≡ min (bit_at ((hit_slots l a t).value s) k) (bit_at ((young_slots l j).value s) k)
  unfolding words.and
  seen_at j k = bit_at_and ((hit_slots l a t).value s) ((young_slots l j).value s) k

  seen_bit : (i m : ℕ) → i < l.size → m < l.size
      → bit_at (seen (slot i)) (slot m) ≡ min (bit_at ((hit_slots l a t).value s) (slot m)) (bit (nat_lt i (m + 1)))
  seen_bit i m il ml = seen_at (slot i) (slot m) ∙ ap (min (bit_at ((hit_slots l a t).value s) (slot m))) (young_bit l g s x z h i m il ml)

  -- from the youngest hit on there is no other
  seen_other : (i m : ℕ) → IsYoungest ys (a.value s) i → i < l.size → m < l.size → m ≢ i → bit_at (seen (slot i)) (slot m) ≡ 0
  seen_other i m y il ml other =
      let r = seen_bit i m il ml in
      ⊎_elim
      (λ (q : i < m + 1).
      let later : i < m = omega (arith, q, other) in
      let p = hit_zero m ml (λ v e. y.last m later (omega (arith, v, count)) (ap (λ (n : Entry). n.addr) (entry_is m v) ∙ e)) in
      omega (arith, r, p))
      (λ (q : m + 1 ≤ i). let p = less_not i (m + 1) q in omega (arith, r, p))
      (cases_lt i (m + 1))

  seen_alone : (i j : ℕ) → IsYoungest ys (a.value s) i → j < l.size → bit_at (seen (slot i)) j ≡ bit_at (2 ^ slot i) j
  seen_alone i j y jn =
      let lt : i < d = omega (arith, y.within, count) in
      let il : i < l.size = omega (arith, lt, k.few, h.slots.room) in
      let o = slot_has l x j jn in
      let m = o.0 in
      let at : slot m ≡ j = o.1.same in
      ⊎_elim
      (λ (q : m ≡ i).
      let own : j ≡ slot i = sym at ∙ ap slot q in
      let r = seen_bit i i il il in
      let p = hit_one i lt (the_same i y) in
      let u = less_is i (i + 1) (omega arith) in
      let one : bit_at (seen (slot i)) (slot i) ≡ 1 = omega (arith, r, p, u) in
      ap (bit_at (seen (slot i))) own ∙ one ∙ sym (bit_at-pow_same (slot i)) ∙ ap (bit_at (2 ^ slot i)) (sym own))
      (λ (q : m ≢ i).
      ap (bit_at (seen (slot i))) (sym at) ∙ seen_other i m y il o.1.below q
      ∙ sym (bit_at-pow_other (slot i) j (λ e. q (apart l.size x.base m i o.1.below il (at ∙ e)))))
      (cases_eq m i)

  wins_one : (i : ℕ) → IsYoungest ys (a.value s) i → (wins_at l (hit_slots l a t) (slot i)).value s ≡ 1
  unfolding wins_at bin_value const_value
  wins_one i y =
      eq_one (seen (slot i)) (2 ^ slot i)
      (same_from_bits_below l.size (seen (slot i)) (2 ^ slot i) (seen_few (slot i)) (pow_below (slot i) l.size (slot_in i)) (λ j jn. seen_alone i j y jn))

  -- a slot beside the youngest hit doesn't win: either it isn't hit itself, or that one is younger
  wins_other : (i j : ℕ) → IsYoungest ys (a.value s) i → j < l.size → j ≢ slot i → (wins_at l (hit_slots l a t) j).value s ≡ 0
  unfolding wins_at bin_value const_value
  wins_other i j y jn q =
      let lt : i < d = omega (arith, y.within, count) in
      let il : i < l.size = omega (arith, lt, k.few, h.slots.room) in
      let o = slot_has l x j jn in
      let m = o.0 in
      let at : slot m ≡ j = o.1.same in
      ⊎_elim
      (λ (u : m < i).
      let r = seen_bit m i o.1.below il in
      let p = hit_one i lt (the_same i y) in
      let v = less_is m (i + 1) (omega (arith, u)) in
      let one : bit_at (seen (slot m)) (slot i) ≡ 1 = omega (arith, r, p, v) in
      eq_none (seen j) (2 ^ j)
      (other_bit (seen j) (2 ^ j) (slot i) (ap (λ n. bit_at (seen n) (slot i)) (sym at) ∙ one) (bit_at-pow_other j (slot i) (λ e. q (sym e)))))
      (λ (u : i ≤ m).
      let differ : i ≢ m = λ e. q (sym at ∙ ap slot (sym e)) in
      let p =
      hit_zero m o.1.below (λ v e. y.last m (omega (arith, u, differ)) (omega (arith, v, count)) (ap (λ (n : Entry). n.addr) (entry_is m v) ∙ e)) in
      let b = ap (bit_at ((hit_slots l a t).value s)) (sym at) ∙ p in
      let r = seen_at j j in
      let none : bit_at (seen j) j ≡ 0 = omega (arith, r, b) in
      eq_none (seen j) (2 ^ j) (λ e. other_bit (2 ^ j) (seen j) j (bit_at-pow_same j) none (sym e)))
      (cases_lt m i)

  -- of a signal for each slot that of the youngest older pending write of the address is given
  won_is : (f : ℕ → Signal) (w i : ℕ) → IsYoungest ys (a.value s) i → (won_signal l f w a t).value s ≡ (f (slot i)).value s
  unfolding mux_value const_value
  won_is f w i y =
      either_one (won_at l f w (hit_slots l a t)) s (l.ticket - 1) 0 (slot i) (omega arith)
      (let b = slot_in i in omega (arith, b, slots_all l z))
      (λ j lo hi q. mux_zero ((wins_at l (hit_slots l a t) j).value s) ((f j).value s) 0
      (wins_other i j y (omega (arith, hi, slots_all l z)) q))
      ∙ mux_one ((wins_at l (hit_slots l a t) (slot i)).value s) ((f (slot i)).value s) 0 (wins_one i y)

  found_one : (i : ℕ) → IsYoungest ys (a.value s) i → (is_found l a t).value s ≡ 1
  unfolding bin_value const_value words.differ
  found_one i y = ap (λ b. bit (not b)) (ne_eqb ((hit_slots l a t).value s) 0 (hit_some i y))

  found_zero : HasNone ys (a.value s) → (is_found l a t).value s ≡ 0
  unfolding bin_value const_value
  found_zero n = ap (λ v. words.differ v 0) (hit_none n) ∙ differ_same 0

  -- a look is ready just where the youngest pending write of the address has its value, or there is none
  pub youngest_looked : (youngest_ready l a t).value s ≡ bit (is_some (youngest ys (a.value s) (Some 0)))
  unfolding mux_value const_value reg_value
  youngest_looked = elim (youngest_of ys (a.value s)) [
    | inl y ↦
        let lt : y.0 < d = omega (arith, y.1.within, count) in
        mux_one ((is_found l a t).value s) ((won_signal l (has_signal l) 1 a t).value s) 1 (found_one y.0 y.1)
        ∙ won_is (has_signal l) 1 y.0 y.1 ∙ h.slots.is_full y.0 (omega (arith, lt, k.few))
        ∙ ap (λ (e : Entry). bit (is_some e.value)) (sym (entry_is y.0 lt)) ∙ ap (λ v. bit (is_some v)) (sym (y.2 (Some 0)))
    | inr n ↦
        mux_zero ((is_found l a t).value s) ((won_signal l (has_signal l) 1 a t).value s) 1 (found_zero n.0)
        ∙ ap (λ v. bit (is_some v)) (sym (n.1 (Some 0)))
  ]

  -- a ready look gives the value of the youngest pending write of the address, or the word where there is none; the value is read of what the slots hold
  pub value_looked : (c : ℕ → Signal) (read : ℕ → ℕ) (o : Signal) → ((j : ℕ) → read ((c j).value s) ≡ (g j).value s)
      → read (o.value s) ≡ slice_index x.words (a.value s)
      → is_some (youngest ys (a.value s) (Some 0)) ≡ true
      → read ((youngest_value l c o a t).value s) ≡ or_zero (youngest ys (a.value s) (Some (slice_index x.words (a.value s))))
  unfolding mux_value
  value_looked c read o held p ready = elim (youngest_of ys (a.value s)) [
    | inl y ↦
        let lt : y.0 < d = omega (arith, y.1.within, count) in
        let word : Option ℕ = Some (slice_index x.words (a.value s)) in
        let has : is_some (entry_at ys y.0).value ≡ true = ap is_some (sym (y.2 (Some 0))) ∙ ready in
        let v = or_zero (entry_at ys y.0).value in
        ap read
        (mux_one ((is_found l a t).value s) ((won_signal l c l.kept a t).value s) (o.value s) (found_one y.0 y.1) ∙ won_is c l.kept y.0 y.1)
        ∙ held (slot y.0)
        ∙ h.slots.has_value y.0 v (omega (arith, lt, k.few)) (ap (λ (e : Entry). e.value) (sym (entry_is y.0 lt)) ∙ some_of (entry_at ys y.0).value has)
        ∙ ap or_zero (sym (y.2 word))
    | inr n ↦
        ap read (mux_zero ((is_found l a t).value s) ((won_signal l c l.kept a t).value s) (o.value s) (found_zero n.0))
        ∙ p ∙ ap or_zero (sym (n.1 (Some (slice_index x.words (a.value s)))))
  ]

-- what is given of a slot has the width that all of it have
pub won_width : (l : RingLayout) (f : ℕ → Signal) (w : ℕ) (a t : Signal) → ((k : ℕ) → (f k).width ≡ w) → (won_signal l f w a t).width ≡ w
won_width l f w a t e = either_width (won_at l f w (hit_slots l a t)) w e (l.ticket - 1) 0

-- where no pending write has the address, the youngest value is the one that is given else
pub free_youngest : (xs : List Entry) (a : ℕ) (v : Option ℕ) → is_free xs a ≡ true → youngest xs a v ≡ v
free_youngest xs a v h = elim (youngest_of xs a) [
  | inl y ↦ absurd (false≢true (sym y.3 ∙ h))
  | inr n ↦ n.1 v
]

-- all pending writes are older than the ticket after the next one
pub all_older : (x : LockState) → take (length x.entries) x.entries ≡ older x (next_ticket x + 1)
all_older x = take_all (length x.entries) x.entries (omega arith) ∙ sym (take_all (next_ticket x + 1 - x.base) x.entries (omega arith))

-- ---- the word of the array

words_at : (array : Option ℕ) (m : ℕ) (s : State) (ws : List ℕ) → array ≡ Some m → HasWords array s ws → slice_index_or s.arrays m [] ≡ ws
words_at None m s ws e h = absurd (cc e)
words_at (Some k) m s ws e h = let q : k ≡ m = cc e in ap (λ n. slice_index_or s.arrays n []) (sym q) ∙ h

some_number : (o : Option ℕ) → is_some o ≡ true → (m : ℕ) × (o ≡ Some m)
some_number None h = absurd (cc h)
some_number (Some m) h = (m, refl)

-- the value of a look that gives the array's word is the word at its address
pub word_given : (c : Circuit) (l : RingLayout) (a : Signal) (v : Option Net) (f : Signal) (s : State) (ws : List ℕ)
    → GivesWord c l a v → option_map (signal c) v ≡ Some f → HasWords l.array s ws
    → f.value s ≡ slice_index ws (a.value s)
unfolding read_value
word_given c l a None f s ws g e h = absurd (cc e)
word_given c l a (Some x) f s ws g e h =
    let m = some_number l.array (sym g.some) in
    let q : signal c x ≡ f = cc e in
    ap (λ (n : Signal). n.value s) (sym q ∙ g.same m.0 x m.1 refl)
    ∙ ap (λ us. slice_index us (a.value s)) (words_at l.array m.0 s ws m.1 h)

-- two signals of which both are there are the same where they are so as optional ones
pub same_signal : (f g : Signal) → Some f ≡ Some g → f ≡ g
same_signal f g e = cc e

-- the net of a look's value
pub look_value_net : (c : Circuit) (width : ℕ) (x : Net) (f : Signal) → Means c x f → f.width ≡ width → HasValueNet c width (Some x)
look_value_net c width x f m w = record {
  net = λ y e. let q : x ≡ y = cc e in subst (λ n. HasWidth c n width) q (width_meant c x f width m w);
}

is_some_same : (v : Option Net) (x : Net) → v ≡ Some x → is_some v ≡ true
is_some_same v x e = rw e refl

-- the net of a look's word, where there is one, is there and has the width of a word
pub value_net : (c : Circuit) (l : RingLayout) (a : Signal) (v : Option Net) → GivesWord c l a v → HasValueNet c l.width v
value_net c l a v g = record {
  net = λ x e. let m = some_number l.array (sym g.some ∙ is_some_same v x e) in
      record { there = g.there x e; width = ap (λ (f : Signal). f.width) (g.same m.0 x m.1 e) };
}
