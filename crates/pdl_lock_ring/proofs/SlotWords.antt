-- What the words of a look are, that have a bit for each slot.
use Rattle.std.proofs.Common.{◌≡◌, ◌≢◌, ℕ, zero, suc, ◌+◌, ◌-◌, ◌*◌, ◌/◌, ◌%◌, ◌^◌, ◌<◌, ◌≤◌, inl, inr, min, max, length, sym, ap, ap₂, ◌∙◌, arith, ⊎_elim, pow_pos, ne_eqb}
use Rattle.std.specs.Prelude.{nat_lt, not, bit_or, bit_xor}
use Rattle.std.specs.Int.{bit_at}
use Rattle.std.proofs.lemmas.Bool.{cases_lt}
use Rattle.std.proofs.lemmas.Nat.{mod_below, field_of, one_shl}
use Rattle.std.proofs.lemmas.Nat.Bits.{bit_at_and, bit_at_or, bit_at-lt, bit_at-zero, bit_at-pow_same, bit_at-pow_other, ones_shl, bit_at_mask_inside, bit_at_mask_below}
use Rattle.std.proofs.Math.Nat.{mod-mod}
use Rattle.std.proofs.Math.Pow.{pow_mono}
use Rattle.pdl_word.specs.Words as words
use Rattle.pdl_word.specs.Words.{bit}
use Rattle.pdl_word.proofs.Shifts.{shl_within}
use Rattle.pdl_word.proofs.Laws.{differ_same}
use Rattle.pdl_net.specs.Circuit.{State}
use Rattle.pdl_net.specs.Signal.{Signal, reg_value, const_value, not_value, bin_value, mux_value, slice_value}
use Rattle.pdl_build.proofs.Extensions.{zext_value}
use Rattle.pdl_lockapi.specs.Lock.{LockState}
use Rattle.pdl_lock_ring.specs.declared.layout.RingLayout.{RingLayout}
use Rattle.pdl_lock_ring.specs.Slots.{IsSized, HasEntries}
use Rattle.pdl_lock_ring.specs.Looks.{head_signal, tail_signal, slot_of, shifted_slots, slots_from, turns_of, passed_slots, pending_slots, head_slot, oldest_slot, older_slots, second_slots, young_slots}
use Rattle.pdl_lock_ring.proofs.SlotNumbers.{slot_held, half_mod, apart}
use Rattle.pdl_lock_ring.proofs.RingValues.{mux_one, mux_zero}
use Rattle.pdl_lock_ring.proofs.Turns.{less_is, less_not, bit_few, turn_word, between_bit, from_bit, before_bit, place}

-- the slot of a ticket
slot_number : (l : RingLayout) (f : Signal) (s : State) (t : ℕ) → IsSized l → f.value s ≡ t % 2 ^ l.ticket → (slot_of l f).value s ≡ t % l.size
unfolding bin_value const_value
slot_number l f s t z e = slot_held l.ticket l.size (f.value s) z.power ∙ ap (λ m. m % l.size) (e ∙ ap (λ m. t % m) z.whole) ∙ half_mod l.size t

-- a word moved up by the slot of a ticket
shifted_value : (l : RingLayout) (v : ℕ) (f : Signal) (s : State) (t : ℕ) → IsSized l → f.value s ≡ t % 2 ^ l.ticket
    → (shifted_slots l v f).value s ≡ v * 2 ^ (t % l.size) % 2 ^ l.size
unfolding bin_value const_value words.zext
shifted_value l v f s t z e =
    ap (words.shl l.size v) (zext_value l.size (slot_of l f) s ∙ slot_number l f s t z e)
    ∙ shl_within l.size v (t % l.size) (mod_below t l.size z.some)

-- the slots from that of a ticket on
from_value : (l : RingLayout) (f : Signal) (s : State) (t : ℕ) → IsSized l → f.value s ≡ t % 2 ^ l.ticket
    → (slots_from l f).value s ≡ 2 ^ l.size - 2 ^ (t % l.size)
from_value l f s t z e =
    let below : t % l.size < l.size = mod_below t l.size z.some in
    shifted_value l (2 ^ l.size - 1) f s t z e ∙ ones_shl l.size (t % l.size) (omega (arith, below))

-- the number of rounds before a ticket, odd or even
round_bit : (w n v t : ℕ) → 1 ≤ w → n ≡ 2 ^ (w - 1) → v ≡ t % 2 ^ w → v / 2 ^ (w - 1) % 2 ^ (w - 1 + 1 - (w - 1)) ≡ t / n % 2
round_bit w n v t low p e =
    let one : w - 1 + 1 - (w - 1) ≡ 1 = omega arith in
    let all : w ≡ 1 + (w - 1) = omega (arith, low) in
    let top : v / 2 ^ (w - 1) ≡ t / 2 ^ (w - 1) % 2 ^ 1 =
    ap (λ m. m / 2 ^ (w - 1)) (e ∙ ap (λ m. t % 2 ^ m) all) ∙ field_of t 1 (w - 1) in
    ap (λ m. v / 2 ^ (w - 1) % 2 ^ m) one ∙ ap (λ m. m % 2 ^ 1) top ∙ mod-mod (t / 2 ^ (w - 1)) (2 ^ 1) ∙ ap (λ m. t / m % 2) (sym p)

low_word : (n v f : ℕ) → v ≤ n → f ≡ 2 ^ n - 2 ^ v → 2 ^ n - 1 - f ≡ 2 ^ v - 1
low_word n v f le e = let p : 2 ^ v ≤ 2 ^ n = pow_mono le in let q = pow_pos v in omega (arith, p, q, e)

-- a ticket's word
turns_value : (l : RingLayout) (f : Signal) (s : State) (t : ℕ) → IsSized l → f.value s ≡ t % 2 ^ l.ticket
    → (turns_of l f).value s ≡ turn_word l.size t
unfolding turns_of mux_value not_value slice_value words.mux words.slice words.complement
turns_value l f s t z e =
    let below : t % l.size < l.size = mod_below t l.size z.some in
    let fr = from_value l f s t z e in
    let low = low_word l.size (t % l.size) ((slots_from l f).value s) (omega (arith, below)) fr in
    let top = round_bit l.ticket l.size (f.value s) t z.ticket_low z.power e in
    cc (fr, low, top)

-- the slots between the head and a ticket
module _ (l : RingLayout) (g : ℕ → Signal) (s : State) (x : LockState) (z : IsSized l) (h : HasEntries l g s x) where
  head_held : (head_signal l).value s ≡ x.base % 2 ^ l.ticket
  unfolding reg_value
  head_held = h.head

  tail_held : (tail_signal l).value s ≡ (x.base + length x.entries) % 2 ^ l.ticket
  unfolding reg_value
  tail_held = h.tail

  pub passed_bit : (f : Signal) (d i : ℕ) → f.value s ≡ (x.base + d) % 2 ^ l.ticket → i < l.size → d ≤ l.size + i
      → bit_at ((passed_slots l f).value s) ((x.base + i) % l.size) ≡ bit (nat_lt i d)
  unfolding passed_slots bin_value words.xor
  passed_bit f d i e lt le =
      ap (λ v. bit_at v ((x.base + i) % l.size))
      (ap₂ bit_xor (turns_value l f s (x.base + d) z e) (turns_value l (head_signal l) s x.base z head_held))
      ∙ between_bit l.size x.base i d lt le

  pending_bit : (i : ℕ) → i < l.size → bit_at ((pending_slots l).value s) ((x.base + i) % l.size) ≡ bit (nat_lt i (length x.entries))
  pending_bit i lt = passed_bit (tail_signal l) (length x.entries) i tail_held lt (let r = h.slots.room in omega (arith, r))

  -- ---- the head's slot

  head_word : (head_slot l).value s ≡ 2 ^ (x.base % l.size)
  unfolding head_slot
  head_word = shifted_value l 1 (head_signal l) s x.base z head_held ∙ one_shl (x.base % l.size) l.size (mod_below x.base l.size z.some)

  first_slot_is : (x.base + 0) % l.size ≡ x.base % l.size
  first_slot_is = ap (λ m. m % l.size) (omega arith)

  later_one : (f : Signal) (d : ℕ) → f.value s ≡ (x.base + d) % 2 ^ l.ticket → d < 2 * l.size → 0 < d
      → words.differ (f.value s) ((head_signal l).value s) ≡ 1
  unfolding words.differ
  later_one f d e lt some =
      let differ : f.value s ≢ (head_signal l).value s =
      λ q. let m : d ≡ 0 =
      apart (2 * l.size) x.base d 0 lt (omega (arith, some, lt))
      (ap (λ v. (x.base + d) % v) (sym z.whole) ∙ sym e ∙ q ∙ head_held ∙ ap (λ v. x.base % v) z.whole ∙ ap (λ v. v % (2 * l.size)) (omega arith)) in
      omega (arith, m, some) in
      ap (λ b. bit (not b)) (ne_eqb (f.value s) ((head_signal l).value s) differ)

  later_none : (f : Signal) (d : ℕ) → f.value s ≡ (x.base + d) % 2 ^ l.ticket → d ≡ 0
      → words.differ (f.value s) ((head_signal l).value s) ≡ 0
  later_none f d e q =
      let same : f.value s ≡ (head_signal l).value s = e ∙ ap (λ m. m % 2 ^ l.ticket) (omega (arith, q)) ∙ sym head_held in
      ap (λ v. words.differ v ((head_signal l).value s)) same ∙ differ_same ((head_signal l).value s)

  -- the head's slot is told where the ticket is a later one
  oldest_one : (f : Signal) (d : ℕ) → f.value s ≡ (x.base + d) % 2 ^ l.ticket → d < 2 * l.size → 0 < d
      → bit_at ((oldest_slot l f).value s) ((x.base + 0) % l.size) ≡ 1
  unfolding oldest_slot mux_value bin_value const_value
  oldest_one f d e lt some =
      ap (λ v. bit_at v ((x.base + 0) % l.size))
      (mux_one (words.differ (f.value s) ((head_signal l).value s)) ((head_slot l).value s) 0 (later_one f d e lt some) ∙ head_word)
      ∙ ap (bit_at (2 ^ (x.base % l.size))) first_slot_is ∙ bit_at-pow_same (x.base % l.size)

  oldest_first : (f : Signal) (d k : ℕ) → f.value s ≡ (x.base + d) % 2 ^ l.ticket → d ≡ 0 → bit_at ((oldest_slot l f).value s) k ≡ 0
  unfolding oldest_slot mux_value bin_value const_value
  oldest_first f d k e q =
      ap (λ v. bit_at v k) (mux_zero (words.differ (f.value s) ((head_signal l).value s)) ((head_slot l).value s) 0 (later_none f d e q))
      ∙ bit_at-zero k

  oldest_other : (f : Signal) (d i : ℕ) → f.value s ≡ (x.base + d) % 2 ^ l.ticket → d < 2 * l.size → i < l.size → 0 < i
      → bit_at ((oldest_slot l f).value s) ((x.base + i) % l.size) ≡ 0
  unfolding oldest_slot mux_value bin_value const_value
  oldest_other f d i e lt il some = ⊎_elim
      (λ (q : 0 < d).
      let other : (x.base + i) % l.size ≢ x.base % l.size =
      λ m. let n : i ≡ 0 = apart l.size x.base i 0 il (omega (arith, some, il)) (m ∙ sym first_slot_is) in omega (arith, n, some) in
      ap (λ v. bit_at v ((x.base + i) % l.size))
      (mux_one (words.differ (f.value s) ((head_signal l).value s)) ((head_slot l).value s) 0 (later_one f d e lt q) ∙ head_word)
      ∙ bit_at-pow_other (x.base % l.size) ((x.base + i) % l.size) other)
      (λ (q : d ≤ 0). oldest_first f d ((x.base + i) % l.size) e (omega (arith, q)))
      (cases_lt 0 d)

  -- ---- the older pending writes: `e` of them, where the ticket is `d` after the head

  older_three : (f : Signal) (i : ℕ) → i < l.size
      → bit_at ((older_slots l f).value s) ((x.base + i) % l.size)
      ≡ min (bit (nat_lt i (length x.entries)))
      (max (bit_at ((oldest_slot l f).value s) ((x.base + i) % l.size)) (bit_at ((passed_slots l f).value s) ((x.base + i) % l.size)))
  unfolding older_slots bin_value words.and words.or
  older_three f i lt =
      bit_at_and ((pending_slots l).value s) (bit_or ((oldest_slot l f).value s) ((passed_slots l f).value s)) ((x.base + i) % l.size)
      ∙ ap₂ min (pending_bit i lt) (bit_at_or ((oldest_slot l f).value s) ((passed_slots l f).value s) ((x.base + i) % l.size))

  -- what two bounds leave
  both : (c d e i : ℕ) → e ≤ c → (i < c → bit (nat_lt i d) ≡ bit (nat_lt i e)) → min (bit (nat_lt i c)) (bit (nat_lt i d)) ≡ bit (nat_lt i e)
  both c d e i le same = ⊎_elim
      (λ (q : i < c). let o = less_is i c q in let m = same q in let b = bit_few (nat_lt i e) in omega (arith, o, m, b))
      (λ (q : c ≤ i). let o = less_not i c q in let n = less_not i e (omega (arith, q, le)) in omega (arith, o, n))
      (cases_lt i c)

  -- the e oldest
  pub older_bit : (f : Signal) (d e i : ℕ) → f.value s ≡ (x.base + d) % 2 ^ l.ticket → e ≤ length x.entries
      → ((j : ℕ) → j < length x.entries → bit (nat_lt j d) ≡ bit (nat_lt j e)) → d ≤ l.size + 1 → d < 2 * l.size → i < l.size
      → bit_at ((older_slots l f).value s) ((x.base + i) % l.size) ≡ bit (nat_lt i e)
  older_bit f d e zero held le same few wide lt =
      let c = length x.entries in
      let k = (x.base + 0) % l.size in
      let b = bit_at-lt ((passed_slots l f).value s) k in
      ⊎_elim
      (λ (q : 0 < d).
      let o = oldest_one f d held wide q in
      let m : max (bit_at ((oldest_slot l f).value s) k) (bit_at ((passed_slots l f).value s) k) ≡ bit (nat_lt 0 d) = omega (arith, o, b, less_is 0 d q) in
      older_three f 0 lt ∙ ap (min (bit (nat_lt 0 c))) m ∙ both c d e 0 le (same 0))
      (λ (q : d ≤ 0).
      let o = oldest_first f d k held (omega (arith, q)) in
      let p = passed_bit f d 0 held lt (omega (arith, q)) in
      let m : max (bit_at ((oldest_slot l f).value s) k) (bit_at ((passed_slots l f).value s) k) ≡ bit (nat_lt 0 d) = omega (arith, o, p) in
      older_three f 0 lt ∙ ap (min (bit (nat_lt 0 c))) m ∙ both c d e 0 le (same 0))
      (cases_lt 0 d)
  older_bit f d e (suc i) held le same few wide lt =
      let c = length x.entries in
      let k = (x.base + suc i) % l.size in
      let o = oldest_other f d (suc i) held wide lt (omega arith) in
      let p = passed_bit f d (suc i) held lt (omega (arith, few)) in
      let m : max (bit_at ((oldest_slot l f).value s) k) (bit_at ((passed_slots l f).value s) k) ≡ bit (nat_lt (suc i) d) = omega (arith, o, p) in
      older_three f (suc i) lt ∙ ap (min (bit (nat_lt (suc i) c))) m ∙ both c d e (suc i) le (same (suc i))

  -- ---- a slot and the slots of younger pending writes

  own_bit : (k j : ℕ) → k < l.size → j < l.size → bit_at (2 ^ l.size - 2 ^ k) j ≡ bit (nat_lt k (j + 1))
  own_bit k j h lt = ⊎_elim
      (λ (q : k < j + 1). bit_at_mask_inside k l.size j (omega (arith, q)) lt ∙ sym (less_is k (j + 1) q))
      (λ (q : j + 1 ≤ k). bit_at_mask_below k l.size j (omega (arith, q)) ∙ sym (less_not k (j + 1) q))
      (cases_lt k (j + 1))

  from_head : (slots_from l (head_signal l)).value s ≡ 2 ^ l.size - 2 ^ (x.base % l.size)
  from_head = from_value l (head_signal l) s x.base z head_held

  second_bit : (j : ℕ) → bit_at ((second_slots l).value s) j ≡ bit (nat_lt j (x.base % l.size))
  unfolding not_value words.complement
  second_bit j =
      let below : x.base % l.size < l.size = mod_below x.base l.size z.some in
      ap (λ v. bit_at v j) (low_word l.size (x.base % l.size) ((slots_from l (head_signal l)).value s) (omega (arith, below)) from_head)
      ∙ before_bit (x.base % l.size) j

  -- whether slot k is from the head's slot on
  first_round : (k : ℕ) → k < l.size → words.slice k k ((slots_from l (head_signal l)).value s) ≡ 1 - bit (nat_lt k (x.base % l.size))
  unfolding words.slice
  first_round k lt =
      let one : k + 1 - k ≡ 1 = omega arith in
      ap (λ v. v / 2 ^ k % 2 ^ (k + 1 - k)) from_head
      ∙ ap (λ m. (2 ^ l.size - 2 ^ (x.base % l.size)) / 2 ^ k % 2 ^ m) one ∙ from_bit l.size (x.base % l.size) k lt

  young_first : (k j : ℕ) → k < l.size → j < l.size → x.base % l.size ≤ k
      → bit_at ((young_slots l k).value s) j ≡ max (bit (nat_lt k (j + 1))) (bit (nat_lt j (x.base % l.size)))
  unfolding young_slots mux_value slice_value bin_value const_value words.or
  young_first k j h lt le =
      let o : words.slice k k ((slots_from l (head_signal l)).value s) ≡ 1 =
      first_round k h ∙ (let n = less_not k (x.base % l.size) le in omega (arith, n)) in
      ap (λ v. bit_at v j) (mux_one (words.slice k k ((slots_from l (head_signal l)).value s)) _ _ o)
      ∙ bit_at_or (2 ^ l.size - 2 ^ k) ((second_slots l).value s) j ∙ ap₂ max (own_bit k j h lt) (second_bit j)

  young_second : (k j : ℕ) → k < l.size → j < l.size → k < x.base % l.size
      → bit_at ((young_slots l k).value s) j ≡ min (bit (nat_lt k (j + 1))) (bit (nat_lt j (x.base % l.size)))
  unfolding young_slots mux_value slice_value bin_value const_value words.and
  young_second k j h lt le =
      let o : words.slice k k ((slots_from l (head_signal l)).value s) ≡ 0 =
      first_round k h ∙ (let n = less_is k (x.base % l.size) le in omega (arith, n)) in
      ap (λ v. bit_at v j) (mux_zero (words.slice k k ((slots_from l (head_signal l)).value s)) _ _ o)
      ∙ bit_at_and (2 ^ l.size - 2 ^ k) ((second_slots l).value s) j ∙ ap₂ min (own_bit k j h lt) (second_bit j)

  -- slots in one round are in the order of their numbers
  same_round : (k j i m : ℕ) → (i < m → k < j) → (m ≤ i → j ≤ k) → bit (nat_lt k j) ≡ bit (nat_lt i m)
  same_round k j i m up down = ⊎_elim
      (λ (q : i < m). less_is k j (up q) ∙ sym (less_is i m q))
      (λ (q : m ≤ i). less_not k j (down q) ∙ sym (less_not i m q))
      (cases_lt i m)

  -- the slot of the m-th pending write is that of the i-th or a younger one where m is no less
  pub young_bit : (i m : ℕ) → i < l.size → m < l.size
      → bit_at ((young_slots l ((x.base + i) % l.size)).value s) ((x.base + m) % l.size) ≡ bit (nat_lt i (m + 1))
  young_bit i m il ml =
      let n = l.size in
      let v = x.base % n in
      let k = (x.base + i) % n in
      let j = (x.base + m) % n in
      let kn : k < n = mod_below (x.base + i) n z.some in
      let jn : j < n = mod_below (x.base + m) n z.some in
      elim (place n x.base i il) [
        | inl a ↦
            let ka = a.1 in
            let f = young_first k j kn jn (omega (arith, ka)) in
            elim (place n x.base m ml) [
              | inl b ↦
                  let jb = b.1 in
                  let o = less_not j v (omega (arith, jb)) in
                  let r = same_round k (j + 1) i (m + 1) (λ q. omega (arith, ka, jb, q)) (λ q. omega (arith, ka, jb, q)) in
                  let w = bit_few (nat_lt k (j + 1)) in
                  omega (arith, f, o, r, w)
              | inr b ↦
                  let jb = b.1 in
                  let o = less_is j v (omega (arith, jb, ml)) in
                  let r = less_is i (m + 1) (let p = a.0 in omega (arith, p, jb)) in
                  let w = bit_few (nat_lt k (j + 1)) in
                  omega (arith, f, o, r, w)
            ]
        | inr a ↦
            let ka = a.1 in
            let f = young_second k j kn jn (omega (arith, ka, il)) in
            elim (place n x.base m ml) [
              | inl b ↦
                  let jb = b.1 in
                  let o = less_not j v (omega (arith, jb)) in
                  let r = less_not i (m + 1) (let p = b.0 in omega (arith, p, ka)) in
                  omega (arith, f, o, r)
              | inr b ↦
                  let jb = b.1 in
                  let o = less_is j v (omega (arith, jb, ml)) in
                  let r = same_round k (j + 1) i (m + 1) (λ q. omega (arith, ka, jb, q)) (λ q. omega (arith, ka, jb, q)) in
                  let w = bit_few (nat_lt k (j + 1)) in
                  omega (arith, f, o, r, w)
            ]
      ]
