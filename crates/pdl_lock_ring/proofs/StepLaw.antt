-- A step's law: what it commits, and what the next state stands for.
use Rattle.std.proofs.Common.{◌≡◌, ℕ, zero, suc, ◌+◌, ◌-◌, ◌*◌, ◌%◌, ◌^◌, ◌<◌, ◌≤◌, List, [], ◌∷◌, length, take, drop, refl, sym, ap, ◌∙◌, arith, length-take, length-drop}
use Rattle.std.specs.Prelude.{◌==◌, if◌then◌else◌, Bool, true, false, Option, Some, None, is_some, slice_set, slice_index_or}
use Rattle.std.proofs.lemmas.Nat.{mod_below}
use Rattle.pdl_word.specs.Words as words
use Rattle.pdl_word.specs.Words.{bit}
use Rattle.pdl_net.specs.Circuit.{Circuit, State}
use Rattle.pdl_net.specs.Growth.{Own}
use Rattle.pdl_net.specs.Signal.{Signal, reg_signal, reg_value, const_value, bin_value, mux_value, mux_signal, const_signal}
use Rattle.pdl_lockapi.specs.Lock.{Entry, LockState, LockAct, Proper, entry_at, or_zero, filled_entries, next_base, after_release, after_squash, committed, committed_words, step}
use Rattle.pdl_lockapi.specs.Laws.{StepSignals, Drives, HasWords, IsNext, StepLaw, after_writes, first_array, end_array}
use Rattle.pdl_lockapi.specs.Second.{Commit2Law}
use Rattle.pdl_lock_ring.specs.declared.layout.RingLayout.{RingLayout}
use Rattle.pdl_lock_ring.specs.declared.layout.Content.TheVariants.{Value}
use Rattle.pdl_lock_ring.specs.Slots.{IsSized, HasEntries, Holds, Stands, content_signal, reg_of, addr_at, has_at, value_at}
use Rattle.pdl_lock_ring.specs.Looks.{head_signal, slot_of}
use Rattle.pdl_lock_ring.specs.Steps.{pushes, pushes2, next_head, head_after, tail_after, number_at, reserved_addr, slot_addr, slot_bit, filled_value, at_ticket, addr_of, content_of, oldest_addr, oldest_value, next_addr, next_value, two_writes, NextAddrs, NextBits, NextEnds, NextValues, own_all}
use Rattle.pdl_lock_ring.proofs.SlotNumbers.{sum_held, half_mod}
use Rattle.pdl_lock_ring.proofs.RingValues.{test_bit, mux_one, mux_zero, holds_same, values_same, drop_holds, take_holds}
use Rattle.pdl_lock_ring.proofs.Trees.{selected_value}
use Rattle.pdl_lock_ring.proofs.Fills.{content_value}
use Rattle.pdl_lock_ring.proofs.LookValues.{some_of}
use Rattle.pdl_lock_ring.proofs.FilledSlots.{TicketsFit, Cycle, some, two, slot_value, all_filled, length_filled, pushes_value, pushes2_value}

-- slot k's value after the writes, from what is given as the value before them
abbrev pub after_fill : RingLayout → StepSignals → (ℕ → Signal) → ℕ → Signal
after_fill l f v k = filled_value l f (v k) (number_at l k) (length f.writes)

-- a list whose first pending write has a value has at least one
pub there_first : (xs : List Entry) → is_some (entry_at xs 0).value ≡ true → 0 < length xs
there_first [] h = absurd (cc h)
there_first (x ∷ xs) h = omega arith

-- a list whose second pending write has a value has at least two
pub there_second : (xs : List Entry) → is_some (entry_at xs 1).value ≡ true → 1 < length xs
there_second [] h = absurd (cc h)
there_second (x ∷ []) h = absurd (cc h)
there_second (x ∷ y ∷ xs) h = omega arith

-- two choices by one test are equal where they are on the side that is taken
pub same_choice : {A : Type 0} (t : Bool) (x y z : A) → (t ≡ true → x ≡ y) → (if t then x else z) ≡ (if t then y else z)
same_choice true x y z h = h refl
same_choice false x y z h = refl

-- where addresses and slots have the same values, they are the same after a cycle's reservations
reserved_as : (l : RingLayout) (f : StepSignals) (s : State) (a a' t t' : Signal) → a.value s ≡ a'.value s → t.value s ≡ t'.value s
    → (reserved_addr l f a t).value s ≡ (reserved_addr l f a' t').value s
unfolding reserved_addr mux_value bin_value
reserved_as l f s a a' t t' p q = cc

-- where values and slots are the same, they are so after the first j write ports
pub filled_as : (l : RingLayout) (f : StepSignals) (s : State) (a a' t t' : Signal) (j : ℕ) → a.value s ≡ a'.value s → t.value s ≡ t'.value s
    → (filled_value l f a t j).value s ≡ (filled_value l f a' t' j).value s
unfolding filled_value mux_value bin_value
filled_as l f s a a' t t' zero p q = p
filled_as l f s a a' t t' (suc j) p q = let r = filled_as l f s a a' t t' j p q in cc

-- the signal of a ticket's slot
pub ticket_value : (l : RingLayout) → IsSized l → (g : ℕ → Signal) (t : Signal) (s : State) (n : ℕ)
    → t.value s ≡ n % 2 ^ l.ticket → (at_ticket l g t).value s ≡ (g (n % l.size)).value s
ticket_value l z g t s n e =
    let q : t.value s % 2 ^ (l.ticket - 1) ≡ n % l.size =
    ap (λ m. t.value s % m) (sym z.power) ∙ ap (λ m. m % l.size) (e ∙ ap (λ m. n % m) z.whole) ∙ half_mod l.size n in
    selected_value g t s (l.ticket - 1) 0 ∙ ap (λ k. (g k).value s) (let r : 0 + t.value s % 2 ^ (l.ticket - 1) ≡ n % l.size = omega (arith, q) in r)

-- the address of a ticket's slot after a cycle's reservations
pub addr_value : (l : RingLayout) → IsSized l → (f : StepSignals) (t : Signal) (s : State) (n : ℕ)
    → t.value s ≡ n % 2 ^ l.ticket → (addr_of l f t).value s ≡ (slot_addr l f (n % l.size)).value s
unfolding const_value
addr_value l z f t s n e =
    let g = λ (k : ℕ). reg_signal l.bits (addr_at l k) in
    reserved_as l f s (at_ticket l g t) (g (n % l.size)) (slot_of l t) (number_at l (n % l.size)) (ticket_value l z g t s n e) (slot_value l z t s n e)

head_number : (t u : Bool) (w b : ℕ)
    → (if u then words.add w (words.add w (b % 2 ^ w) 1) 1 else if t then words.add w (b % 2 ^ w) 1 else b % 2 ^ w)
    ≡ (if u then b + 2 else if t then b + 1 else b) % 2 ^ w
head_number t true w b = ap (λ m. words.add w m 1) (sum_held w b 1) ∙ sum_held w (b + 1) 1 ∙ ap (λ m. m % 2 ^ w) (omega arith)
head_number true false w b = sum_held w b 1
head_number false false w b = refl

pushed_number : (w n : ℕ) (ys : List ℕ)
    → length ys ≤ 2
    → words.mux (two ys) (words.add w (words.add w (n % 2 ^ w) 1) 1) (words.mux (some ys) (words.add w (n % 2 ^ w) 1) (n % 2 ^ w))
    ≡ (n + length ys) % 2 ^ w
pushed_number w n [] h = mux_zero 0 _ _ refl ∙ mux_zero 0 _ _ refl ∙ ap (λ m. m % 2 ^ w) (omega arith)
pushed_number w n (y ∷ []) h = mux_zero 0 _ _ refl ∙ mux_one 1 _ _ refl ∙ sum_held w n 1
pushed_number w n (y ∷ z ∷ []) h = mux_one 1 _ _ refl ∙ ap (λ m. words.add w m 1) (sum_held w n 1) ∙ sum_held w (n + 1) 1 ∙ ap (λ m. m % 2 ^ w) (omega arith)
pushed_number w n (y ∷ z ∷ z' ∷ ys) h = absurd (omega (arith, h))

squashed_number : (t : Bool) (w tail n v : ℕ)
    → (t ≡ true → v ≡ tail % 2 ^ w) → (if t then v else n % 2 ^ w) ≡ (if t then tail else n) % 2 ^ w
squashed_number true w tail n v h = h refl
squashed_number false w tail n v h = refl

-- the base never goes down by releases
pub base_low : (t u : Bool) (b : ℕ) → b ≤ (if u then b + 2 else if t then b + 1 else b)
base_low t true b = omega arith
base_low true false b = omega arith
base_low false false b = omega arith

-- how many are left, counted from the new base
left_count : (t u q : Bool) (b tail n : ℕ) (xs : List Entry)
    → length xs ≡ n → (t ≡ true → 0 < n) → (u ≡ true → 1 < n)
    → (q ≡ true → (if u then b + 2 else if t then b + 1 else b) ≤ tail) → (q ≡ true → tail ≤ b + n)
    → (if u then b + 2 else if t then b + 1 else b) + length (if q
    then take (tail - (if u then b + 2 else if t then b + 1 else b)) (if u then drop 2 xs else if t then drop 1 xs else xs)
    else (if u then drop 2 xs else if t then drop 1 xs else xs))
    ≡ (if q then tail else b + n)
left_count t true true b tail n xs e one more lo hi = let d = length-drop 2 xs in
    let k = length-take (tail - (b + 2)) (drop 2 xs) in omega (arith, d, k, e, lo refl, hi refl, more refl)
left_count t true false b tail n xs e one more lo hi = let d = length-drop 2 xs in omega (arith, d, e, more refl)
left_count true false true b tail n xs e one more lo hi = let d = length-drop 1 xs in
    let k = length-take (tail - (b + 1)) (drop 1 xs) in omega (arith, d, k, e, lo refl, hi refl, one refl)
left_count true false false b tail n xs e one more lo hi = let d = length-drop 1 xs in omega (arith, d, e, one refl)
left_count false false true b tail n xs e one more lo hi = let k = length-take (tail - b) xs in omega (arith, k, e, lo refl, hi refl)
left_count false false false b tail n xs e one more lo hi = omega (arith, e)

-- what the slots hold of the pending writes that are left
left_holds : (t u q : Bool) (n b d : ℕ) (A H X : ℕ → ℕ) (xs : List Entry) → Holds n b A H X xs
    → Holds n (if u then b + 2 else if t then b + 1 else b) A H X
    (if q then take d (if u then drop 2 xs else if t then drop 1 xs else xs) else (if u then drop 2 xs else if t then drop 1 xs else xs))
left_holds t true true n b d A H X xs h = take_holds n (b + 2) d A H X (drop 2 xs) (drop_holds n b 2 A H X xs h)
left_holds t true false n b d A H X xs h = drop_holds n b 2 A H X xs h
left_holds true false true n b d A H X xs h = take_holds n (b + 1) d A H X (drop 1 xs) (drop_holds n b 1 A H X xs h)
left_holds true false false n b d A H X xs h = drop_holds n b 1 A H X xs h
left_holds false false true n b d A H X xs h = take_holds n b d A H X xs h
left_holds false false false n b d A H X xs h = h

-- a choice by a signal that stands for whether something is so
by_bit : (m : ℕ) (t : Bool) (y z : ℕ) → m ≡ bit t → words.mux m y z ≡ (if t then y else z)
unfolding words.mux
by_bit m t y z e = ap (λ b. if b then y else z) (test_bit m t e)

-- the registers of head, tail, addresses and value bits are in a fragment, and take these next values
pub record EntriesStay (b : Circuit) (o : Own) (l : RingLayout) (f : StepSignals) : Type 0 where
  pub from : o.from ≤ l.from
  pub to : l.from + 2 + 2 * l.size ≤ o.to
  pub addrs : NextAddrs b l f l.size
  pub bits : NextBits b l f l.size
  pub ends : NextEnds b l f

module _ (l : RingLayout) (v : ℕ → Signal) (s : State) (x : LockState) (f : StepSignals) (a : LockAct) where
  abbrev xs : List Entry
  xs = filled_entries x a

  -- the pending writes that are left
  abbrev pub left : List Entry
  left = after_squash x a (after_release a (filled_entries x a))

  -- the head is the ticket of the oldest pending write, modulo the number of tickets
  pub head_value : Cycle l v s x f a → (head_signal l).value s ≡ x.base % 2 ^ l.ticket
  unfolding reg_value
  head_value c = c.stands.head

  -- the ticket after the head is that of the second oldest pending write
  pub next_head_value : Cycle l v s x f a → (next_head l).value s ≡ (x.base + 1) % 2 ^ l.ticket
  unfolding bin_value const_value
  next_head_value c = ap (λ n. words.add l.ticket n 1) (head_value c) ∙ sum_held l.ticket x.base 1

  -- ---- the commits

  slot_zero : x.base % l.size ≡ (x.base + 0) % l.size
  slot_zero = ap (λ n. n % l.size) (omega arith)

  -- where a write is released, the net of the oldest address has that of the oldest pending write
  pub oldest_addr_is : Cycle l v s x f a → a.release ≡ true → (oldest_addr l f).value s ≡ (entry_at (filled_entries x a) 0).addr
  oldest_addr_is c o =
      let h = all_filled l v s x f a c in
      addr_value l c.sized f (head_signal l) s x.base (head_value c)
      ∙ ap (λ k. (slot_addr l f k).value s) slot_zero ∙ h.has_addr 0 (there_first xs (c.proper.done o))

  -- where a second write is released, the net of the next address has that of the second oldest pending write
  pub next_addr_is : Cycle l v s x f a → a.release2 ≡ true → (next_addr l f).value s ≡ (entry_at (filled_entries x a) 1).addr
  next_addr_is c o =
      let h = all_filled l v s x f a c in
      addr_value l c.sized f (next_head l) s (x.base + 1) (next_head_value c) ∙ h.has_addr 1 (there_second xs (c.proper.done2 o))

  -- where a write is released, the value that is found at the head is that of the oldest pending write
  pub oldest_value_is : Cycle l v s x f a → a.release ≡ true
      → (at_ticket l (after_fill l f v) (head_signal l)).value s ≡ or_zero (entry_at (filled_entries x a) 0).value
  oldest_value_is c o =
      let h = all_filled l v s x f a c in
      ticket_value l c.sized (after_fill l f v) (head_signal l) s x.base (head_value c) ∙ ap (λ k. (after_fill l f v k).value s) slot_zero
      ∙ h.has_value 0 (or_zero (entry_at xs 0).value) (there_first xs (c.proper.done o)) (some_of (entry_at xs 0).value (c.proper.done o))

  -- where a second write is released, the value that is found after the head is that of the second oldest pending write
  pub next_value_is : Cycle l v s x f a → a.release2 ≡ true
      → (at_ticket l (after_fill l f v) (next_head l)).value s ≡ or_zero (entry_at (filled_entries x a) 1).value
  next_value_is c o =
      let h = all_filled l v s x f a c in
      ticket_value l c.sized (after_fill l f v) (next_head l) s (x.base + 1) (next_head_value c)
      ∙ h.has_value 1 (or_zero (entry_at xs 1).value) (there_second xs (c.proper.done2 o)) (some_of (entry_at xs 1).value (c.proper.done2 o))

  -- a choice between a value and 0 by the net of a release is one by whether the cycle makes one
  pub by_release : Cycle l v s x f a → (m n : ℕ) → (a.release ≡ true → m ≡ n) → words.mux (f.release.value s) m 0 ≡ (if a.release then n else 0)
  unfolding words.mux
  by_release c m n h = ap (λ t. if t then m else 0) (test_bit (f.release.value s) a.release c.drives.release) ∙ same_choice a.release m n 0 h

  -- a choice between a value and 0 by the net of a second release is one by whether the cycle makes one
  pub by_release2 : Cycle l v s x f a → (m n : ℕ) → (a.release2 ≡ true → m ≡ n) → words.mux (f.release2.value s) m 0 ≡ (if a.release2 then n else 0)
  unfolding words.mux
  by_release2 c m n h = ap (λ t. if t then m else 0) (test_bit (f.release2.value s) a.release2 c.drives.release2) ∙ same_choice a.release2 m n 0 h

  -- ---- head and tail

  head_after_value : Cycle l v s x f a → (head_after l f).value s ≡ next_base x a % 2 ^ l.ticket
  unfolding head_after mux_value bin_value reg_value const_value words.mux
  head_after_value c =
      let w = l.ticket in
      ap (λ m. if f.release2.value s == 1 then words.add w (words.add w m 1) 1 else (if f.release.value s == 1 then words.add w m 1 else m)) c.stands.head
      ∙ ap
      (λ t. if t then words.add w (words.add w (x.base % 2 ^ w) 1) 1
      else (if f.release.value s == 1 then words.add w (x.base % 2 ^ w) 1 else x.base % 2 ^ w))
      (test_bit (f.release2.value s) a.release2 c.drives.release2)
      ∙ ap (λ t. if a.release2 then words.add w (words.add w (x.base % 2 ^ w) 1) 1 else (if t then words.add w (x.base % 2 ^ w) 1 else x.base % 2 ^ w))
      (test_bit (f.release.value s) a.release c.drives.release)
      ∙ head_number a.release a.release2 w x.base

  tail_after_value : Cycle l v s x f a → (tail_after l f).value s ≡ (if a.squash then a.tail else x.base + length x.entries + length a.reserves) % 2 ^ l.ticket
  unfolding tail_after mux_value bin_value reg_value const_value
  tail_after_value c =
      let w = l.ticket in
      let n = x.base + length x.entries in
      let p = pushes_value l v s x f a c in
      let q = pushes2_value l v s x f a c in
      let pushed : words.mux ((pushes2 f).value s) (words.add w (words.add w (reg_of s (l.from + 1)) 1) 1)
      (words.mux ((pushes f).value s) (words.add w (reg_of s (l.from + 1)) 1) (reg_of s (l.from + 1)))
      ≡ (n + length a.reserves) % 2 ^ w =
      ap
      (λ m. words.mux m (words.add w (words.add w (reg_of s (l.from + 1)) 1) 1)
      (words.mux ((pushes f).value s) (words.add w (reg_of s (l.from + 1)) 1) (reg_of s (l.from + 1)))) q
      ∙ ap
      (λ m. words.mux (two a.reserves) (words.add w (words.add w (reg_of s (l.from + 1)) 1) 1)
      (words.mux m (words.add w (reg_of s (l.from + 1)) 1) (reg_of s (l.from + 1)))) p
      ∙ ap (λ m. words.mux (two a.reserves) (words.add w (words.add w m 1) 1) (words.mux (some a.reserves) (words.add w m 1) m)) c.stands.tail
      ∙ pushed_number w n a.reserves c.proper.two in
      ap (λ m. words.mux (f.squash.value s) (f.tail.value s) m) pushed
      ∙ by_bit (f.squash.value s) a.squash (f.tail.value s) ((n + length a.reserves) % 2 ^ w) c.drives.squash
      ∙ squashed_number a.squash w a.tail (n + length a.reserves) (f.tail.value s) c.drives.tail

  -- from the new base as many pending writes are left as reach the next ticket, or the tail of a squash
  pub left_long : Cycle l v s x f a → next_base x a + length left ≡ (if a.squash then a.tail else x.base + length x.entries + length a.reserves)
  left_long c =
      let n = length x.entries + length a.reserves in
      let long = length_filled x a in
      left_count a.release a.release2 a.squash x.base a.tail n xs long
      (λ o. let d = there_first xs (c.proper.done o) in omega (arith, d, long))
      (λ o. let d = there_second xs (c.proper.done2 o) in omega (arith, d, long))
      c.proper.tail_from (λ o. omega (arith, c.proper.tail_to o))
      ∙ ap (λ m. if a.squash then a.tail else m) (let e : x.base + n ≡ x.base + length x.entries + length a.reserves = omega arith in e)

  -- the values of the pending writes that are left stay where they are
  pub record ValuesStay (t : State) : Type 0 where
    pub stay : (i : ℕ) → i < length left → (v ((next_base x a + i) % l.size)).value t ≡ (after_fill l f v ((next_base x a + i) % l.size)).value s

  -- in the next state the slots stand for the pending writes of the step, where the values of those that are left stay
  pub entries_next : (b : Circuit) (o : Own) (t : State) → Cycle l v s x f a → EntriesStay b o l f → IsNext b o s t → ValuesStay t → HasEntries l v t (step x a)
  entries_next b o t c n i m =
      record {
        head = i.regs l.from (omega (arith, n.from)) (omega (arith, n.to)) ∙ ap (λ (g : Signal). g.value s) n.ends.head ∙ head_after_value c;
        tail =
            i.regs (l.from + 1) (omega (arith, n.from)) (omega (arith, n.to))
            ∙ ap (λ (g : Signal). g.value s) n.ends.tail ∙ tail_after_value c
            ∙ ap (λ k. k % 2 ^ l.ticket) (sym (left_long c));
        slots =
            values_same l.size (next_base x a) (λ k. reg_of t (addr_at l k)) (λ k. reg_of t (has_at l k))
            (λ k. (after_fill l f v k).value s) (λ k. (v k).value t) left m.stay
            (holds_same l.size (next_base x a) (λ k. (slot_addr l f k).value s) (λ k. (slot_bit l f k).value s)
            (λ k. (after_fill l f v k).value s) (λ k. reg_of t (addr_at l k)) (λ k. reg_of t (has_at l k))
            (λ k. (after_fill l f v k).value s) left c.sized.some
            (λ k h. i.regs (addr_at l k) (omega (arith, n.from)) (omega (arith, n.to, h)) ∙ ap (λ (g : Signal). g.value s) (n.addrs.addr k h))
            (λ k h. i.regs (has_at l k) (omega (arith, n.from)) (omega (arith, n.to, h)) ∙ ap (λ (g : Signal). g.value s) (n.bits.bit k h))
            (λ k h. refl)
            (left_holds a.release a.release2 a.squash l.size x.base (a.tail - next_base x a)
            (λ k. (slot_addr l f k).value s) (λ k. (slot_bit l f k).value s)
            (λ k. (after_fill l f v k).value s) xs (all_filled l v s x f a c)));
      }

-- ---- slots that keep values

-- the words of the array, where there is one, after two writes
words_next : (array : Option ℕ) (s t : State) (c : Circuit) (l : RingLayout) (e a v e' a' v' : Signal) (ws next : List ℕ)
    → l.array ≡ array → HasWords array s ws
    → ((m : ℕ) → array ≡ Some m → slice_index_or t.arrays m [] ≡ after_writes s (two_writes e a v e' a' v') (slice_index_or s.arrays m []))
    → after_writes s (two_writes e a v e' a' v') ws ≡ next → HasWords array t next
words_next None s t c l e a v e' a' v' ws next q h n same = tt
words_next (Some m) s t c l e a v e' a' v' ws next q h n same = n m refl ∙ ap (after_writes s (two_writes e a v e' a' v')) h ∙ same

-- the array is the one of its range
array_low : (array : Option ℕ) (m : ℕ) → array ≡ Some m → first_array array ≤ m
array_low array m e = rw e (omega arith)

array_high : (array : Option ℕ) (m : ℕ) → array ≡ Some m → m < end_array array
array_high array m e = rw e (omega arith)

cc_set : (ws : List ℕ) (a b v w : ℕ) → a ≡ b → v ≡ w → slice_set ws a v ≡ slice_set ws b w
cc_set ws a b v w e f = cc (e, f)

-- two writes are those of the commits
two_committed : (t u : Bool) (e e' a v a' v' : ℕ) (xs : List Entry) (ws : List ℕ)
    → e ≡ bit t → e' ≡ bit u → (u ≡ true → t ≡ true) → (t ≡ true → a ≡ (entry_at xs 0).addr)
    → (t ≡ true → v ≡ or_zero (entry_at xs 0).value) → (u ≡ true → a' ≡ (entry_at xs 1).addr)
    → (u ≡ true → v' ≡ or_zero (entry_at xs 1).value)
    → (if e' == 1 then slice_set (if e == 1 then slice_set ws a v else ws) a' v' else (if e == 1 then slice_set ws a v else ws))
    ≡ (if u then committed xs 1 (committed xs 0 ws) else if t then committed xs 0 ws else ws)
two_committed t true e e' a v a' v' xs ws p q both i j k m =
    let o = both refl in
    let d : e ≡ 1 = p ∙ ap bit o in
    let first : (if e == 1 then slice_set ws a v else ws) ≡ committed xs 0 ws =
    rw d (cc_set ws a (entry_at xs 0).addr v (or_zero (entry_at xs 0).value) (i o) (j o)) in
    rw q (ap (λ zs. slice_set zs a' v') first ∙ cc_set (committed xs 0 ws) a' (entry_at xs 1).addr v' (or_zero (entry_at xs 1).value) (k refl) (m refl))
two_committed true false e e' a v a' v' xs ws p q both i j k m =
    rw (q, p) (cc_set ws a (entry_at xs 0).addr v (or_zero (entry_at xs 0).value) (i refl) (j refl))
two_committed false false e e' a v a' v' xs ws p q both i j k m = rw (q, p) refl

module _ (b : Circuit) (l : RingLayout) (f : StepSignals) (keeps : l.content ≡ Value) (z : IsSized l) (t : TicketsFit l.ticket f) (n : NextValues b l f) where
  abbrev V : ℕ → Signal
  V = content_signal l

  cycle : (s : State) (x : LockState) (a : LockAct) → Stands l s x → Drives l.ticket f s a → Proper l.size x a → Cycle l V s x f a
  cycle s x a h d p = record { sized = z; stands = h.entries; fit = t; drives = d; proper = p }

  -- what a ticket's slot holds is its value after the writes
  same_at : (s : State) (u : Signal) (m : ℕ) → u.value s ≡ m % 2 ^ l.ticket
      → (content_of l f u).value s ≡ (at_ticket l (after_fill l f V) u).value s
  unfolding const_value
  same_at s u m e =
      ap (λ (g : Signal). g.value s) (content_value l f (at_ticket l V u) (slot_of l u) keeps)
      ∙ filled_as l f s (at_ticket l V u) (V (m % l.size)) (slot_of l u) (number_at l (m % l.size)) (length f.writes)
      (ticket_value l z V u s m e) (slot_value l z u s m e)
      ∙ sym (ticket_value l z (after_fill l f V) u s m e)

  oldest_same : (s : State) (x : LockState) (a : LockAct) → Cycle l V s x f a → a.release ≡ true
      → (oldest_value l f).value s ≡ or_zero (entry_at (filled_entries x a) 0).value
  oldest_same s x a c o = same_at s (head_signal l) x.base (head_value l V s x f a c) ∙ oldest_value_is l V s x f a c o

  next_same : (s : State) (x : LockState) (a : LockAct) → Cycle l V s x f a → a.release2 ≡ true
      → (next_value l f).value s ≡ or_zero (entry_at (filled_entries x a) 1).value
  next_same s x a c o = same_at s (next_head l) (x.base + 1) (next_head_value l V s x f a c) ∙ next_value_is l V s x f a c o

  stands_next : (s u : State) (x : LockState) (a : LockAct) → Stands l s x → Cycle l V s x f a → IsNext b (own_all l) s u → Stands l u (step x a)
  unfolding reg_value
  stands_next s u x a h c o =
      let writes = two_writes f.release (oldest_addr l f) (oldest_value l f) f.release2 (next_addr l f) (next_value l f) in
      record {
        entries = entries_next l V s x f a b (own_all l) u c (record { from = omega arith; to = omega arith; addrs = n.addrs; bits = n.bits; ends = n.ends }) o
            (record {
              stay = λ i lt.
                  let k = (next_base x a + i) % l.size in
                  let below : k < l.size = mod_below (next_base x a + i) l.size z.some in
                  o.regs (value_at l k) (omega arith) (omega (arith, below))
                  ∙ ap (λ (g : Signal). g.value s) (n.contents.value k below ∙ content_value l f (content_signal l k) (number_at l k) keeps);
            });
        words =
            words_next l.array s u b l f.release (oldest_addr l f) (oldest_value l f) f.release2 (next_addr l f)
            (next_value l f) x.words (committed_words a (filled_entries x a) x.words) refl h.words
            (λ m e. o.arrays m (array_low l.array m e) (array_high l.array m e) ∙ n.array.words m e s (slice_index_or s.arrays m []))
            (two_committed a.release a.release2 (f.release.value s) (f.release2.value s) ((oldest_addr l f).value s)
            ((oldest_value l f).value s) ((next_addr l f).value s) ((next_value l f).value s)
            (filled_entries x a) x.words
            c.drives.release c.drives.release2 c.proper.both (oldest_addr_is l V s x f a c) (oldest_same s x a c)
            (next_addr_is l V s x f a c) (next_same s x a c));
      }

  -- a lock that keeps values in its slots keeps the law of the step, with the oldest pending write as its commit
  pub step_law : StepLaw (Stands l) l.size l.ticket (own_all l) b f f.release (mux_signal f.release (oldest_addr l f) (const_signal l.bits 0))
      (mux_signal f.release (oldest_value l f) (const_signal l.width 0))
  unfolding mux_value const_value
  step_law = record {
    commits = λ s x a h d p. d.release;
    commits_addr = λ s x a h d p. let c = cycle s x a h d p in
        by_release l V s x f a c ((oldest_addr l f).value s) (entry_at (filled_entries x a) 0).addr (oldest_addr_is l V s x f a c);
    commits_value = λ s x a h d p. let c = cycle s x a h d p in
        by_release l V s x f a c ((oldest_value l f).value s) (or_zero (entry_at (filled_entries x a) 0).value) (oldest_same s x a c);
    next = λ s u x a h d p o. stands_next s u x a h (cycle s x a h d p) o;
  }

  -- a lock that keeps values in its slots keeps the law of the second commit, with the second oldest pending write
  pub commit2_law : Commit2Law (Stands l) l.size l.ticket f f.release2 (mux_signal f.release2 (next_addr l f) (const_signal l.bits 0))
      (mux_signal f.release2 (next_value l f) (const_signal l.width 0))
  unfolding mux_value const_value
  commit2_law = record {
    commits = λ s x a h d p. d.release2;
    commits_addr = λ s x a h d p. let c = cycle s x a h d p in
        by_release2 l V s x f a c ((next_addr l f).value s) (entry_at (filled_entries x a) 1).addr (next_addr_is l V s x f a c);
    commits_value = λ s x a h d p. let c = cycle s x a h d p in
        by_release2 l V s x f a c ((next_value l f).value s) (or_zero (entry_at (filled_entries x a) 1).value) (next_same s x a c);
  }
