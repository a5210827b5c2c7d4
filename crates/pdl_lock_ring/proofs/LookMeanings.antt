-- What the nets of looks say of the pending writes.
use Rattle.std.proofs.Common.{◌≡◌, ◌≢◌, ℕ, zero, suc, ◌+◌, ◌-◌, ◌%◌, ◌^◌, ◌<◌, ◌≤◌, ◌⊎◌, inl, inr, List, [], ◌∷◌, length, refl, sym, ap, ◌∙◌, arith, ⊎_elim, lt-ltb, le-ltb, eq-eqb, ne_eqb}
use Rattle.std.specs.Prelude.{◌==◌, if◌then◌else◌, Bool, true, false, Option, nat_lt}
use Rattle.std.specs.Int.{bit_at}
use Rattle.std.proofs.lemmas.Bool.{cases_lt, cases_eq}
use Rattle.pdl_word.specs.Words as words
use Rattle.pdl_word.specs.Words.{bit}
use Rattle.pdl_net.specs.Circuit.{State}
use Rattle.pdl_net.specs.Signal.{Signal, reg_value, const_value, bin_value}
use Rattle.pdl_lockapi.specs.Lock.{Entry, LockState, entry_at, is_free, youngest, Covered, next_ticket}
use Rattle.pdl_lockapi.specs.Laws.{RoomLaw, TicketLaw}
use Rattle.pdl_lockapi.specs.Second.{Room2Law, Ticket2Law}
use Rattle.pdl_lock_ring.specs.declared.layout.RingLayout.{RingLayout}
use Rattle.pdl_lock_ring.specs.Slots.{IsSized, HasEntries, reg_of, addr_at}
use Rattle.pdl_lock_ring.specs.Looks.{tail_signal, second_ticket, count_signal, room_signal, room2_signal, older_slots, same_at}
use Rattle.pdl_lock_ring.proofs.SlotNumbers.{sub_held, sum_held, index_of}
use Rattle.pdl_lock_ring.proofs.Turns.{less_is}
use Rattle.pdl_lock_ring.proofs.SlotWords.{older_bit}
use Rattle.pdl_word.proofs.Bools.{if_false}

-- how many writes are pending
count_value : (l : RingLayout) (g : ℕ → Signal) (s : State) (x : LockState) → IsSized l → HasEntries l g s x
    → (count_signal l).value s ≡ length x.entries
unfolding bin_value reg_value
count_value l g s x z h =
    ap (λ n. words.sub l.ticket n (reg_of s l.from)) h.tail
    ∙ ap (words.sub l.ticket ((x.base + length x.entries) % 2 ^ l.ticket)) h.head
    ∙ sub_held l.ticket x.base (x.base + length x.entries) (omega arith) (omega (arith, h.slots.room, z.fits))
    ∙ (omega arith)

-- the laws of tickets and room, for each meaning of a state in which the registers stand for the pending writes
module _ (stands : State → LockState → Type 0) (l : RingLayout) (g : ℕ → Signal) (z : IsSized l)
    (f : (s : State) (x : LockState) → stands s x → HasEntries l g s x) where
  -- the tail keeps the law of the next ticket
  pub ticket_law : TicketLaw stands l.ticket (tail_signal l)
  unfolding reg_value
  ticket_law = record { holds = λ s x i. (f s x i).tail }

  -- the tail plus 1 keeps the law of the ticket after the next
  pub ticket2_law : Ticket2Law stands l.ticket (second_ticket l)
  unfolding bin_value reg_value const_value
  ticket2_law = record { holds = λ s x i. ap (λ n. words.add l.ticket n 1) (f s x i).tail ∙ sum_held l.ticket (x.base + length x.entries) 1 }

  -- the comparison of the number of pending writes with n keeps the law of room for one
  pub room_law : RoomLaw stands l.size (room_signal l)
  unfolding bin_value const_value words.less
  room_law = record { holds = λ s x i. ap (λ n. words.less n l.size) (count_value l g s x z (f s x i)) }

  -- the comparison of the number of pending writes with n - 1 keeps the law of room for two
  pub room2_law : Room2Law stands l.size (room2_signal l)
  unfolding bin_value const_value words.less
  room2_law = record {
    holds = λ s x i.
        let n = length x.entries in
        ap (λ m. words.less m (l.size - 1)) (count_value l g s x z (f s x i))
        ∙ ⊎_elim
        (λ (h : n + 1 < l.size). ap bit (lt-ltb n (l.size - 1) (omega arith)) ∙ sym (ap bit (lt-ltb (n + 1) l.size h)))
        (λ (h : l.size ≤ n + 1). ap bit (le-ltb n (l.size - 1) (omega arith)) ∙ sym (ap bit (le-ltb (n + 1) l.size h)))
        (cases_lt (n + 1) l.size);
  }

-- ---- which pending writes are older

-- a look's word: the slots of the d oldest pending writes
pub record Seeks (l : RingLayout) (s : State) (x : LockState) (t : Signal) (d : ℕ) : Type 0 where
  pub few : d ≤ length x.entries
  pub older : (i : ℕ) → i < l.size → bit_at ((older_slots l t).value s) ((x.base + i) % l.size) ≡ bit (nat_lt i d)

-- a ticket up to the next one
pub seeks_covered : (l : RingLayout) (g : ℕ → Signal) (s : State) (x : LockState) (f : Signal) (t : ℕ) → IsSized l
    → HasEntries l g s x → Covered x t → f.value s ≡ t % 2 ^ l.ticket → Seeks l s x f (t - x.base)
seeks_covered l g s x f t z h c e =
    let d = t - x.base in
    let held : f.value s ≡ (x.base + d) % 2 ^ l.ticket = e ∙ ap (λ m. m % 2 ^ l.ticket) (omega (arith, c.from)) in
    let le : d ≤ length x.entries = omega (arith, c.from, c.to) in
    record {
      few = le;
      older = λ i lt. older_bit l g s x z h f d d i held le (λ j q. refl) (omega (arith, le, h.slots.room)) (omega (arith, le, h.slots.room, z.some)) lt;
    }

-- the ticket after the next one
pub seeks_late : (l : RingLayout) (g : ℕ → Signal) (s : State) (x : LockState) (f : Signal) → IsSized l
    → HasEntries l g s x → 2 ≤ l.size → f.value s ≡ (next_ticket x + 1) % 2 ^ l.ticket
    → Seeks l s x f (length x.entries)
seeks_late l g s x f z h two e =
    let n = length x.entries in
    let held : f.value s ≡ (x.base + (n + 1)) % 2 ^ l.ticket = e ∙ ap (λ m. m % 2 ^ l.ticket) (omega arith) in
    let same = λ (j : ℕ) (q : j < n). less_is j (n + 1) (omega (arith, q)) ∙ sym (less_is j n q) in
    record {
      few = omega arith;
      older = λ i lt. older_bit l g s x z h f (n + 1) n i held (omega arith) same (omega (arith, h.slots.room)) (omega (arith, h.slots.room, two)) lt;
    }

-- ---- slots and pending writes

-- slot k is that of the i-th pending write, or of a number after the last one
pub record IsSlotOf (l : RingLayout) (x : LockState) (k i : ℕ) : Type 0 where
  pub below : i < l.size
  pub same : (x.base + i) % l.size ≡ k

-- each slot is that of the i-th pending write, or of a number after the last one
pub slot_has : (l : RingLayout) (x : LockState) (k : ℕ) → k < l.size → (i : ℕ) × IsSlotOf l x k i
slot_has l x k h = let e = index_of l.size x.base k h in (e.0, record { below = e.1; same = e.2 })

-- the slot of a pending write has an address where the pending write has it
pub same_value : (l : RingLayout) (g : ℕ → Signal) (s : State) (x : LockState) (a : Signal) (k i : ℕ)
    → HasEntries l g s x → IsSlotOf l x k i → i < length x.entries
    → (same_at l a k).value s ≡ words.equal (entry_at x.entries i).addr (a.value s)
unfolding bin_value reg_value
same_value l g s x a k i h o lt = ap (λ m. words.equal m (a.value s)) (ap (λ m. reg_of s (addr_at l m)) (sym o.same) ∙ h.slots.has_addr i lt)

-- ---- which pending writes have an address

-- the last one of them that has it
pub record IsYoungest (xs : List Entry) (a i : ℕ) : Type 0 where
  pub within : i < length xs
  pub same : (entry_at xs i).addr ≡ a
  pub last : (j : ℕ) → i < j → j < length xs → (entry_at xs j).addr ≢ a

-- none of these pending writes has the address
abbrev pub HasNone : List Entry → ℕ → Type 0
HasNone xs a = (j : ℕ) → j < length xs → (entry_at xs j).addr ≢ a

none_more : (e : Entry) (es : List Entry) (a : ℕ) → e.addr ≢ a → HasNone es a → HasNone (e ∷ es) a
none_more e es a n h zero lt = n
none_more e es a n h (suc j) lt = h j (omega arith)

last_first : (e : Entry) (es : List Entry) (a : ℕ) → HasNone es a → (j : ℕ) → 0 < j → j < length (e ∷ es) → (entry_at (e ∷ es) j).addr ≢ a
last_first e es a h zero lo lt = absurd (omega arith)
last_first e es a h (suc j) lo lt = h j (omega arith)

last_later : (e : Entry) (es : List Entry) (a i : ℕ) → IsYoungest es a i → (j : ℕ)
    → suc i < j → j < length (e ∷ es) → (entry_at (e ∷ es) j).addr ≢ a
last_later e es a i y zero lo lt = absurd (omega arith)
last_later e es a i y (suc j) lo lt = y.last j (omega arith) (omega arith)

later : (e : Entry) (es : List Entry) (a i : ℕ) → IsYoungest es a i → IsYoungest (e ∷ es) a (suc i)
later e es a i y = record { within = omega (arith, y.within); same = y.same; last = last_later e es a i y }

-- what the youngest of them says
pub youngest_of : (xs : List Entry) (a : ℕ)
    → ((i : ℕ) × IsYoungest xs a i × ((f : Option ℕ) → youngest xs a f ≡ (entry_at xs i).value) × (is_free xs a ≡ false))
    ⊎ (HasNone xs a × ((f : Option ℕ) → youngest xs a f ≡ f) × (is_free xs a ≡ true))
youngest_of [] a = inr ((λ j h. absurd (omega arith)), (λ f. refl), refl)
youngest_of (e ∷ es) a = elim (youngest_of es a) [
  | inl y ↦ inl (suc y.0, later e es a y.0 y.1, (λ f. y.2 (if e.addr == a then e.value else f)), if_false (e.addr == a) (is_free es a) y.3)
  | inr n ↦ ⊎_elim
      (λ (q : e.addr ≡ a).
      let t : (e.addr == a) ≡ true = eq-eqb e.addr a q in
      inl (
        0,
        record { within = omega arith; same = q; last = last_first e es a n.0 },
        (λ f. n.1 (if e.addr == a then e.value else f) ∙ ap (λ (b : Bool). if b then e.value else f) t),
        ap (λ (b : Bool). if b then false else is_free es a) t,
      ))
      (λ (q : e.addr ≢ a).
      let t : (e.addr == a) ≡ false = ne_eqb e.addr a q in
      inr (
        none_more e es a q n.0,
        (λ f. n.1 (if e.addr == a then e.value else f) ∙ ap (λ (b : Bool). if b then e.value else f) t),
        ap (λ (b : Bool). if b then false else is_free es a) t ∙ n.2,
      ))
      (cases_eq e.addr a)
]
