-- What the slots hold after the reservations and the writes of a cycle.
use Rattle.std.proofs.Common.{◌≡◌, ◌≢◌, ℕ, zero, suc, ◌+◌, ◌-◌, ◌%◌, ◌^◌, ◌<◌, ◌≤◌, List, [], ◌∷◌, ◌++◌, length, take, map, refl, sym, ap, ◌∙◌, subst, add-one, arith, ⊎_elim, length-append}
use Rattle.std.specs.Prelude.{◌==◌, if◌then◌else◌, Bool, true, false}
use Rattle.std.proofs.lemmas.Bool.{cases_eq}
use Rattle.std.proofs.lemmas.List.{take_more, take_all, length-map}
use Rattle.pdl_word.specs.Words as words
use Rattle.pdl_word.specs.Words.{bit}
use Rattle.pdl_net.specs.Circuit.{State}
use Rattle.pdl_net.specs.Signal.{Signal, reg_value, const_value, bin_value, mux_value}
use Rattle.pdl_lockapi.specs.Lock.{Entry, LockState, LockAct, WriteAct, act_at, no_write_act, fresh, with_reserves, with_writes, with_write, filled_entries, Proper}
use Rattle.pdl_lockapi.specs.Laws.{StepSignals, ReserveSignal, reserve_at, ticket_at, no_reserve, asked_addresses, Drives}
use Rattle.pdl_lock_ring.specs.declared.layout.RingLayout.{RingLayout}
use Rattle.pdl_lock_ring.specs.Slots.{IsSized, HasEntries, Holds, reg_of, addr_at, has_at}
use Rattle.pdl_lock_ring.specs.Looks.{slot_of, tail_signal, second_ticket}
use Rattle.pdl_lock_ring.specs.Steps.{push_signal, push2_signal, last_addr, before_addr, pushes, pushes2, first_addr, second_addr, first_slot, second_slot, written_slot, fills_slot, filled_bit, filled_value, number_at, reserved_addr, slot_addr, slot_bit}
use Rattle.pdl_lock_ring.proofs.SlotNumbers.{slot_held, half_mod, sum_held}
use Rattle.pdl_lock_ring.proofs.RingValues.{if_one, if_other, mux_one, mux_zero, eq_none, AreGiven, holds_same, append_holds, put_holds, written-push, length-written}

-- 1 where there is an element, else 0
abbrev pub some : List ℕ → ℕ
some [] = 0
some (y ∷ ys) = 1

-- 1 where there are at least two elements, else 0
abbrev pub two : List ℕ → ℕ
two [] = 0
two (y ∷ ys) = some ys

abbrev last_or : List ℕ → ℕ → ℕ
last_or [] d = d
last_or (y ∷ ys) d = last_or ys y

abbrev before_or : List ℕ → ℕ → ℕ
before_or [] d = d
before_or (y ∷ []) d = d
before_or (y ∷ z ∷ ys) d = before_or (z ∷ ys) y

some-push : (xs : List ℕ) (y : ℕ) → some (xs ++ y ∷ []) ≡ 1
some-push [] y = refl
some-push (x ∷ xs) y = refl

two-push : (xs : List ℕ) (y : ℕ) → two (xs ++ y ∷ []) ≡ some xs
two-push [] y = refl
two-push (x ∷ xs) y = some-push xs y

last-push : (xs : List ℕ) (y d : ℕ) → last_or (xs ++ y ∷ []) d ≡ y
last-push [] y d = refl
last-push (x ∷ xs) y d = last-push xs y x

before-push : (xs : List ℕ) (y d : ℕ) → before_or (xs ++ y ∷ []) d ≡ last_or xs d
before-push [] y d = refl
before-push (x ∷ []) y d = refl
before-push (x ∷ z ∷ xs) y d = before-push (z ∷ xs) y x

asked-push : (s : State) (fs : List ReserveSignal) (g : ReserveSignal)
    → asked_addresses s (fs ++ g ∷ [])
    ≡ (if g.enable.value s == 1 then asked_addresses s fs ++ g.addr.value s ∷ [] else asked_addresses s fs)
asked-push s [] g = refl
asked-push s (f ∷ fs) g =
    let ih = asked-push s fs g in
    let y = f.addr.value s in
    let u = g.enable.value s == 1 in
    let xs = asked_addresses s fs in
    let z = g.addr.value s in
    let swap : (t u : Bool) (xs : List ℕ)
    → (if t then y ∷ (if u then xs ++ z ∷ [] else xs) else (if u then xs ++ z ∷ [] else xs))
    ≡ (if u then (if t then y ∷ xs else xs) ++ z ∷ [] else (if t then y ∷ xs else xs))
    = λ t u xs. elim t as
    (λ t. (if t then y ∷ (if u then xs ++ z ∷ [] else xs) else (if u then xs ++ z ∷ [] else xs))
    ≡ (if u then (if t then y ∷ xs else xs) ++ z ∷ [] else (if t then y ∷ xs else xs))) [
      | true ↦ elim u as (λ u. y ∷ (if u then xs ++ z ∷ [] else xs) ≡ (if u then (y ∷ xs) ++ z ∷ [] else y ∷ xs)) [ true ↦ refl | false ↦ refl ]
      | false ↦ elim u as (λ u. (if u then xs ++ z ∷ [] else xs) ≡ (if u then xs ++ z ∷ [] else xs)) [ true ↦ refl | false ↦ refl ]
    ] in
    ap (λ l. if f.enable.value s == 1 then y ∷ l else l) ih ∙ swap (f.enable.value s == 1) u xs

-- the addresses that the first k + 1 ports ask, by those of the first k
asked_more : (f : StepSignals) (s : State) (k : ℕ)
    → k < length f.reserves
    → asked_addresses s (take (suc k) f.reserves)
    ≡ (if (reserve_at f.reserves k).enable.value s == 1
    then asked_addresses s (take k f.reserves) ++ (reserve_at f.reserves k).addr.value s ∷ []
    else asked_addresses s (take k f.reserves))
asked_more f s k h =
    ap (λ n. asked_addresses s (take n f.reserves)) (sym (add-one k))
    ∙ ap (asked_addresses s) (take_more f.reserves k no_reserve h)
    ∙ asked-push s (take k f.reserves) (reserve_at f.reserves k)

push_value : (f : StepSignals) (s : State) (k : ℕ)
    → k ≤ length f.reserves → (push_signal f k).value s ≡ some (asked_addresses s (take k f.reserves))
unfolding push_signal mux_value const_value words.mux
push_value f s zero h = refl
push_value f s (suc k) h =
    let g = reserve_at f.reserves k in
    let xs = asked_addresses s (take k f.reserves) in
    let e = asked_more f s k (omega arith) in
    ⊎_elim
    (λ (o : g.enable.value s ≡ 1). if_one (g.enable.value s) 1 _ o ∙ sym (some-push xs (g.addr.value s)) ∙ ap some (sym (e ∙ if_one (g.enable.value s) _ _ o)))
    (λ (o : g.enable.value s ≢ 1). if_other (g.enable.value s) 1 _ o ∙ push_value f s k (omega arith) ∙ ap some (sym (e ∙ if_other (g.enable.value s) _ _ o)))
    (cases_eq (g.enable.value s) 1)

push2_value : (f : StepSignals) (s : State) (k : ℕ)
    → k ≤ length f.reserves → (push2_signal f k).value s ≡ two (asked_addresses s (take k f.reserves))
unfolding push2_signal mux_value const_value words.mux
push2_value f s zero h = refl
push2_value f s (suc k) h =
    let g = reserve_at f.reserves k in
    let xs = asked_addresses s (take k f.reserves) in
    let e = asked_more f s k (omega arith) in
    ⊎_elim
    (λ (o : g.enable.value s ≡ 1). if_one (g.enable.value s) _ _ o ∙ push_value f s k (omega arith)
    ∙ sym (two-push xs (g.addr.value s)) ∙ ap two (sym (e ∙ if_one (g.enable.value s) _ _ o)))
    (λ (o : g.enable.value s ≢ 1). if_other (g.enable.value s) _ _ o ∙ push2_value f s k (omega arith) ∙ ap two (sym (e ∙ if_other (g.enable.value s) _ _ o)))
    (cases_eq (g.enable.value s) 1)

last_value : (bits : ℕ) (f : StepSignals) (s : State) (k : ℕ)
    → k ≤ length f.reserves → (last_addr bits f k).value s ≡ last_or (asked_addresses s (take k f.reserves)) 0
unfolding last_addr mux_value const_value words.mux
last_value bits f s zero h = refl
last_value bits f s (suc k) h =
    let g = reserve_at f.reserves k in
    let xs = asked_addresses s (take k f.reserves) in
    let e = asked_more f s k (omega arith) in
    ⊎_elim
    (λ (o : g.enable.value s ≡ 1). if_one (g.enable.value s) _ _ o ∙ sym (last-push xs (g.addr.value s) 0)
    ∙ ap (λ l. last_or l 0) (sym (e ∙ if_one (g.enable.value s) _ _ o)))
    (λ (o : g.enable.value s ≢ 1). if_other (g.enable.value s) _ _ o ∙ last_value bits f s k (omega arith)
    ∙ ap (λ l. last_or l 0) (sym (e ∙ if_other (g.enable.value s) _ _ o)))
    (cases_eq (g.enable.value s) 1)

before_value : (bits : ℕ) (f : StepSignals) (s : State) (k : ℕ)
    → k ≤ length f.reserves → (before_addr bits f k).value s ≡ before_or (asked_addresses s (take k f.reserves)) 0
unfolding before_addr mux_value const_value words.mux
before_value bits f s zero h = refl
before_value bits f s (suc k) h =
    let g = reserve_at f.reserves k in
    let xs = asked_addresses s (take k f.reserves) in
    let e = asked_more f s k (omega arith) in
    ⊎_elim
    (λ (o : g.enable.value s ≡ 1). if_one (g.enable.value s) _ _ o ∙ last_value bits f s k (omega arith)
    ∙ sym (before-push xs (g.addr.value s) 0) ∙ ap (λ l. before_or l 0) (sym (e ∙ if_one (g.enable.value s) _ _ o)))
    (λ (o : g.enable.value s ≢ 1). if_other (g.enable.value s) _ _ o ∙ before_value bits f s k (omega arith)
    ∙ ap (λ l. before_or l 0) (sym (e ∙ if_other (g.enable.value s) _ _ o)))
    (cases_eq (g.enable.value s) 1)

-- the tickets' nets have the width of a ticket
pub record TicketsFit (w : ℕ) (f : StepSignals) : Type 0 where
  pub tickets : (k : ℕ) → k < length f.writes → (ticket_at f.writes k).ticket.width ≡ w
  pub tail : f.tail.width ≡ w

-- what is known in a cycle of proper use
pub record Cycle (l : RingLayout) (g : ℕ → Signal) (s : State) (x : LockState) (f : StepSignals) (a : LockAct) : Type 0 where
  pub sized : IsSized l
  pub stands : HasEntries l g s x
  pub fit : TicketsFit l.ticket f
  pub drives : Drives l.ticket f s a
  pub proper : Proper l.size x a

-- the slot of a ticket is that of its number modulo the size
pub slot_value : (l : RingLayout) → IsSized l → (t : Signal) (s : State) (n : ℕ)
    → t.value s ≡ n % 2 ^ l.ticket → (slot_of l t).value s ≡ n % l.size
unfolding bin_value const_value
slot_value l z t s n e =
    slot_held l.ticket l.size (t.value s) z.power
    ∙ ap (λ v. v % l.size) (e ∙ ap (λ m. n % m) z.whole)
    ∙ half_mod l.size n

module _ (l : RingLayout) (v : ℕ → Signal) (s : State) (x : LockState) (f : StepSignals) (a : LockAct) where
  -- the addresses that are asked for
  asked_all : Cycle l v s x f a → asked_addresses s (take (length f.reserves) f.reserves) ≡ a.reserves
  asked_all c = ap (asked_addresses s) (take_all (length f.reserves) f.reserves (omega arith)) ∙ sym c.drives.reserves

  -- the signal that tells of a reservation is 1 just where the cycle makes one
  pub pushes_value : Cycle l v s x f a → (pushes f).value s ≡ some a.reserves
  pushes_value c = push_value f s (length f.reserves) (omega arith) ∙ ap some (asked_all c)

  -- the signal that tells of two reservations is 1 just where the cycle makes two
  pub pushes2_value : Cycle l v s x f a → (pushes2 f).value s ≡ two a.reserves
  pushes2_value c = push2_value f s (length f.reserves) (omega arith) ∙ ap two (asked_all c)

  first_is : Cycle l v s x f a → (first_addr l f).value s ≡ words.mux (two a.reserves) (before_or a.reserves 0) (last_or a.reserves 0)
  unfolding first_addr mux_value
  first_is c =
      let p = pushes2_value c in
      let q : (before_addr l.bits f (length f.reserves)).value s ≡ before_or a.reserves 0 =
      before_value l.bits f s (length f.reserves) (omega arith) ∙ ap (λ ys. before_or ys 0) (asked_all c) in
      let r : (last_addr l.bits f (length f.reserves)).value s ≡ last_or a.reserves 0 =
      last_value l.bits f s (length f.reserves) (omega arith) ∙ ap (λ ys. last_or ys 0) (asked_all c) in
      cc (p, q, r)

  second_is : Cycle l v s x f a → (second_addr l f).value s ≡ last_or a.reserves 0
  unfolding second_addr
  second_is c = last_value l.bits f s (length f.reserves) (omega arith) ∙ ap (λ ys. last_or ys 0) (asked_all c)

  -- the tail is the ticket of the next reservation, modulo the number of tickets
  pub tail_value : Cycle l v s x f a → (tail_signal l).value s ≡ (x.base + length x.entries) % 2 ^ l.ticket
  unfolding reg_value
  tail_value c = c.stands.tail

  -- the second ticket is the one after the next, modulo the number of tickets
  pub second_value : Cycle l v s x f a → (second_ticket l).value s ≡ (x.base + length x.entries + 1) % 2 ^ l.ticket
  unfolding bin_value const_value
  second_value c = ap (λ n. words.add l.ticket n 1) (tail_value c) ∙ sum_held l.ticket (x.base + length x.entries) 1

  first_slot_is : Cycle l v s x f a → (first_slot l f).value s ≡ words.mux (some a.reserves) ((x.base + length x.entries) % l.size) l.size
  unfolding first_slot mux_value const_value
  first_slot_is c =
      let p = pushes_value c in
      let q = slot_value l c.sized (tail_signal l) s (x.base + length x.entries) (tail_value c) in
      cc (p, q)

  second_slot_is : Cycle l v s x f a → (second_slot l f).value s ≡ words.mux (two a.reserves) ((x.base + length x.entries + 1) % l.size) l.size
  unfolding second_slot mux_value const_value
  second_slot_is c =
      let p = pushes2_value c in
      let q = slot_value l c.sized (second_ticket l) s (x.base + length x.entries + 1) (second_value c) in
      cc (p, q)

  -- the reservations are given the slots of their tickets
  pub are_given : Cycle l v s x f a
      → AreGiven l.size (x.base + length x.entries) a.reserves ((first_slot l f).value s) ((second_slot l f).value s)
      ((first_addr l f).value s) ((second_addr l f).value s)
  are_given c =
      given a.reserves ((first_slot l f).value s) ((second_slot l f).value s) ((first_addr l f).value s)
      ((second_addr l f).value s) c.proper.two (first_slot_is c) (second_slot_is c) (first_is c) (second_is c)
    where
      given : (ys : List ℕ) (t1 t2 a1 a2 : ℕ) → length ys ≤ 2
          → t1 ≡ words.mux (some ys) ((x.base + length x.entries) % l.size) l.size
          → t2 ≡ words.mux (two ys) ((x.base + length x.entries + 1) % l.size) l.size
          → a1 ≡ words.mux (two ys) (before_or ys 0) (last_or ys 0) → a2 ≡ last_or ys 0 → AreGiven l.size (x.base + length x.entries) ys t1 t2 a1 a2
      given [] t1 t2 a1 a2 h p q r u =
          (p ∙ mux_zero 0 ((x.base + length x.entries) % l.size) l.size refl, q ∙ mux_zero 0 ((x.base + length x.entries + 1) % l.size) l.size refl)
      given (y ∷ []) t1 t2 a1 a2 h p q r u = (
        p ∙ mux_one 1 ((x.base + length x.entries) % l.size) l.size refl,
        q ∙ mux_zero 0 ((x.base + length x.entries + 1) % l.size) l.size refl,
        r ∙ mux_zero 0 0 y refl,
      )
      given (y ∷ z ∷ []) t1 t2 a1 a2 h p q r u = (
        p ∙ mux_one 1 ((x.base + length x.entries) % l.size) l.size refl,
        q ∙ mux_one 1 ((x.base + length x.entries + 1) % l.size) l.size refl,
        r ∙ mux_one 1 y z refl,
        u,
      )
      given (y ∷ z ∷ z' ∷ ys) t1 t2 a1 a2 h p q r u = absurd (omega (arith, h))

  -- after the reservations
  appended_holds : Cycle l v s x f a
      → Holds l.size x.base (λ k. (slot_addr l f k).value s) (λ k. (filled_bit l f k 0).value s)
      (λ k. (filled_value l f (v k) (number_at l k) 0).value s) (with_reserves a.reserves x.entries)
  unfolding reserved_addr filled_bit filled_value mux_value bin_value reg_value const_value
  appended_holds c =
      append_holds l.size x.base (λ k. reg_of s (addr_at l k)) (λ k. reg_of s (has_at l k))
      (λ k. (v k).value s) x.entries a.reserves ((first_slot l f).value s) ((second_slot l f).value s)
      ((first_addr l f).value s) ((second_addr l f).value s)
      c.sized.some c.proper.two c.proper.room (are_given c) c.stands.slots

  -- a write port that is enabled writes into the slot of its ticket
  pub written_value : Cycle l v s x f a → (j : ℕ) → j < length a.writes → (act_at a.writes j).on ≡ true
      → (written_slot l f j).value s ≡ (act_at a.writes j).ticket % l.size
  unfolding mux_value const_value
  written_value c j lt o =
      let g = ticket_at f.writes j in
      let on : g.enable.value s ≡ 1 = c.drives.on j lt ∙ ap bit o in
      mux_one (g.enable.value s) ((slot_of l g.ticket).value s) l.size on ∙ slot_value l c.sized g.ticket s (act_at a.writes j).ticket (c.drives.ticket j lt o)

  -- a write port that isn't enabled has the number of slots in place of a slot, so none is meant
  pub unwritten_value : Cycle l v s x f a → (j : ℕ) → j < length a.writes → (act_at a.writes j).on ≡ false → (written_slot l f j).value s ≡ l.size
  unfolding mux_value const_value
  unwritten_value c j lt o =
      let g = ticket_at f.writes j in
      mux_zero (g.enable.value s) ((slot_of l g.ticket).value s) l.size (c.drives.on j lt ∙ ap bit o)

  -- whether a write port writes into slot k
  pub fills_one : Cycle l v s x f a → (k j : ℕ) → j < length a.writes → (act_at a.writes j).on ≡ true
      → (fills_slot l f k j).value s ≡ words.equal ((act_at a.writes j).ticket % l.size) k
  unfolding bin_value const_value
  fills_one c k j lt o = ap (λ n. words.equal n k) (written_value c j lt o)

  -- a write port that isn't enabled writes into no slot
  pub fills_none : Cycle l v s x f a → (k j : ℕ) → k < l.size → j < length a.writes → (act_at a.writes j).on ≡ false → (fills_slot l f k j).value s ≡ 0
  unfolding bin_value const_value
  fills_none c k j h lt o = ap (λ n. words.equal n k) (unwritten_value c j lt o) ∙ eq_none l.size k (λ e. omega (arith, e, h))

  -- after the first j write ports
  filled_holds : Cycle l v s x f a → (j : ℕ) → j ≤ length a.writes
      → Holds l.size x.base (λ k. (slot_addr l f k).value s) (λ k. (filled_bit l f k j).value s)
      (λ k. (filled_value l f (v k) (number_at l k) j).value s)
      (with_writes x.base (take j a.writes) (with_reserves a.reserves x.entries))
  unfolding filled_bit filled_value mux_value const_value
  filled_holds c zero h = appended_holds c
  filled_holds c (suc j) h =
      let ih = filled_holds c j (omega arith) in
      let ys = with_reserves a.reserves x.entries in
      let w = act_at a.writes j in
      let lt : j < length a.writes = omega arith in
      let len = length-written x.base (take j a.writes) ys ∙ length_appended a.reserves x.entries in
      let e : with_writes x.base (take (suc j) a.writes) ys ≡ with_write x.base w (with_writes x.base (take j a.writes) ys) =
      ap (λ n. with_writes x.base (take n a.writes) ys) (sym (add-one j))
      ∙ ap (λ ws. with_writes x.base ws ys) (take_more a.writes j no_write_act lt)
      ∙ written-push x.base (take j a.writes) w ys in
      let P : List Entry → Type 0 =
      λ zs. Holds l.size x.base (λ k. (slot_addr l f k).value s) (λ k. (filled_bit l f k (suc j)).value s)
      (λ k. (filled_value l f (v k) (number_at l k) (suc j)).value s) zs in
      subst P (sym e)
      (holds_same l.size x.base _ _ _ _ _ _ (with_write x.base w (with_writes x.base (take j a.writes) ys)) c.sized.some (λ k m. refl) (λ k m. refl)
      (λ k m. ap (λ n. words.mux ((fills_slot l f k j).value s) n ((filled_value l f (v k) (number_at l k) j).value s)) (c.drives.value j lt))
      (put_holds l.size x.base w (λ k. (slot_addr l f k).value s) (λ k. (filled_bit l f k j).value s)
      (λ k. (filled_value l f (v k) (number_at l k) j).value s) (λ k. (fills_slot l f k j).value s)
      (with_writes x.base (take j a.writes) ys)
      c.sized.some (λ o. c.proper.from j lt o)
      (λ o. omega (arith, len, c.proper.from j lt o, c.proper.below j lt o))
      (λ k o. fills_one c k j lt o)
      (λ k m o. fills_none c k j m lt o)
      ih))
    where
      length_appended : (ys : List ℕ) (xs : List Entry) → length (with_reserves ys xs) ≡ length xs + length ys
      length_appended ys xs = length-append xs (map fresh ys) ∙ ap (λ n. length xs + n) (length-map ys fresh)

  -- after all write ports the slots hold the pending writes with the cycle's reservations and values
  pub all_filled : Cycle l v s x f a
      → Holds l.size x.base (λ k. (slot_addr l f k).value s) (λ k. (slot_bit l f k).value s)
      (λ k. (filled_value l f (v k) (number_at l k) (length f.writes)).value s) (filled_entries x a)
  all_filled c =
      let h = filled_holds c (length a.writes) (omega arith) in
      let P : ℕ → Type 0 =
      λ n. Holds l.size x.base (λ k. (slot_addr l f k).value s) (λ k. (filled_bit l f k n).value s)
      (λ k. (filled_value l f (v k) (number_at l k) n).value s) (filled_entries x a) in
      let Q : List WriteAct → Type 0 =
      λ ws. Holds l.size x.base (λ k. (slot_addr l f k).value s) (λ k. (filled_bit l f k (length a.writes)).value s)
      (λ k. (filled_value l f (v k) (number_at l k) (length a.writes)).value s)
      (with_writes x.base ws (with_reserves a.reserves x.entries)) in
      subst P c.drives.count (subst Q (take_all (length a.writes) a.writes (omega arith)) h)

-- as many entries as before, and those that are reserved
pub length_filled : (x : LockState) (a : LockAct) → length (filled_entries x a) ≡ length x.entries + length a.reserves
length_filled x a =
    length-written x.base a.writes (with_reserves a.reserves x.entries) ∙ length-append x.entries (map fresh a.reserves)
    ∙ ap (λ n. length x.entries + n) (length-map a.reserves fresh)
