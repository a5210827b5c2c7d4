-- The ports of a lock that one stage drives: what they ask where its thread moves, and that they ask nothing where it doesn't.
use Rattle.std.proofs.Common.{◌≡◌, refl, sym, ap, ap₂, ◌∙◌, ℕ, zero, suc, ◌+◌, ◌<◌, Bool, true, false, ◌&&◌, List, [], ◌∷◌, ◌++◌, length, Option, Some, None, arith, ◌==◌, ◌⊎◌, inl, inr, add-zero, lt-ltb}
use Rattle.std.specs.Prelude.{if◌then◌else◌, nat_lt, ⊤}
use Rattle.std.proofs.lemmas.Bool.{false≢true, and_parts}
use Rattle.pdl_word.specs.Words.{bit}
use Rattle.pdl_semantics.specs.Flat.{Pipe}
use Rattle.pdl_semantics.specs.Machine as machine
use Rattle.pdl_semantics.specs.Machine.{Thread, Written}
use Rattle.pdl_semantics.specs.Cycle.{releases_of}
use Rattle.pdl_net.specs.Circuit.{State}
use Rattle.pdl_net.specs.Signal.{Signal, mux_signal}
use Rattle.pdl_lockapi.specs.Lock.{WriteAct}
use Rattle.pdl_lockapi.specs.Lock as lock
use Rattle.pdl_lockapi.specs.Laws.{ReserveSignal, TicketSignal, FitsIn, holds_ticket, reserve_at, ticket_at, asked_addresses}
use Rattle.pdl_lockapi.specs.Forget.{addresses_of}
use Rattle.pdl_machine_facts.specs.Slots.{here, slot_moves, stage_moves, mover, act_at}
use Rattle.pdl_law_parts.specs.Walk.{Reservation, Put, Letting, both, one, zero_bit, is_on}
use Rattle.pdl_law_parts.specs.Ports.{reserves_to, puts_to, release_moves, second_moves}
use Rattle.pdl_law_parts.specs.Stands.{AddressesFit, AreBits, reserved_in, written_in, let_in}
use Rattle.pdl_law_parts.proofs.Signals.{mux_at, mux_by, both_at, one_is, zero_is}
use Rattle.pdl_law_parts.proofs.LockUse.{EachTo, write_acts}

-- PORTS OF ONE STAGE

-- the addresses that reserve ports ask for are those of the first ones, and then those of the others
pub asked_append : (s : State) (xs ys : List ReserveSignal) → asked_addresses s (xs ++ ys) ≡ asked_addresses s xs ++ asked_addresses s ys
asked_append s [] ys = refl
asked_append s (x ∷ xs) ys = at (x.enable.value s == 1) (asked_append s xs ys)
  where
    at : (b : Bool) → asked_addresses s (xs ++ ys) ≡ asked_addresses s xs ++ asked_addresses s ys
        → (if b then x.addr.value s ∷ asked_addresses s (xs ++ ys) else asked_addresses s (xs ++ ys))
        ≡ (if b then x.addr.value s ∷ asked_addresses s xs else asked_addresses s xs) ++ asked_addresses s ys
    at true e = ap (λ l. x.addr.value s ∷ l) e
    at false e = e

-- a condition of a thread that moves, or of one that stays
pub both_is : (s : State) (a b : Signal) (g : Bool) → a.value s ≡ bit g → ((both a b).value s == 1) ≡ (g && is_on b s)
both_is s a b true e = ap (λ n. n == 1) (mux_at s a b zero_bit true e)
both_is s a b false e = ap (λ n. n == 1) (mux_at s a b zero_bit false e ∙ zero_is s)

-- the addresses of reservations that a stage asks
pub asked_stage : (s : State) (m : ℕ) (moves : Signal) (g : Bool)
    → moves.value s ≡ bit g → (rs : List Reservation)
    → (if g then addresses_of m (reserved_in s rs) else []) ≡ asked_addresses s (reserves_to m moves rs)
asked_stage s m moves true e [] = refl
asked_stage s m moves false e [] = refl
asked_stage s m moves false e (r ∷ rs) = at (r.mem == m) (asked_stage s m moves false e rs)
  where
    at : (b : Bool) → [] ≡ asked_addresses s (reserves_to m moves rs)
        → [] ≡ asked_addresses s (if b then record { enable = both moves r.on; addr = r.addr } ∷ reserves_to m moves rs else reserves_to m moves rs)
    at true i =
        i
        ∙ ap (λ t. if t then r.addr.value s ∷ asked_addresses s (reserves_to m moves rs) else asked_addresses s (reserves_to m moves rs))
        (sym (both_is s moves r.on false e))
    at false i = i
asked_stage s m moves true e (r ∷ rs) = at (is_on r.on s) (both_is s moves r.on true e) (asked_stage s m moves true e rs)
  where
    rest : List ReserveSignal
    rest = reserves_to m moves rs

    at : (o : Bool) → ((both moves r.on).value s == 1) ≡ o → addresses_of m (reserved_in s rs) ≡ asked_addresses s rest
        → addresses_of m (if o then record { mem = r.mem; var = r.var; address = r.addr.value s } ∷ reserved_in s rs else reserved_in s rs)
        ≡ asked_addresses s (if r.mem == m then record { enable = both moves r.on; addr = r.addr } ∷ rest else rest)
    at true f i = by (r.mem == m)
      where
        by : (b : Bool)
            → (if b then r.addr.value s ∷ [] else []) ++ addresses_of m (reserved_in s rs)
            ≡ asked_addresses s (if b then record { enable = both moves r.on; addr = r.addr } ∷ rest else rest)
        by true = ap (λ l. r.addr.value s ∷ l) i ∙ ap (λ t. if t then r.addr.value s ∷ asked_addresses s rest else asked_addresses s rest) (sym f)
        by false = i
    at false f i = by (r.mem == m)
      where
        by : (b : Bool) → addresses_of m (reserved_in s rs) ≡ asked_addresses s (if b then record { enable = both moves r.on; addr = r.addr } ∷ rest else rest)
        by true = i ∙ ap (λ t. if t then r.addr.value s ∷ asked_addresses s rest else asked_addresses s rest) (sym f)
        by false = i

-- the address of each reservation that is made fits
abbrev pub AreFitting : State → List ReserveSignal → Type 0
AreFitting s [] = ⊤
AreFitting s (f ∷ fs) = (f.enable.value s ≡ 1 → FitsIn f.addr s) × AreFitting s fs

-- where the addresses of two lists of reservations fit, those of both together do
pub fitting_append : (s : State) (fs gs : List ReserveSignal) → AreFitting s fs → AreFitting s gs → AreFitting s (fs ++ gs)
fitting_append s [] gs h i = i
fitting_append s (f ∷ fs) gs h i = (h.0, fitting_append s fs gs h.1 i)

-- where the addresses of reservations that are made fit, that of each one does
pub fitting_at : (s : State) (fs : List ReserveSignal) → AreFitting s fs → (k : ℕ)
    → k < length fs → (reserve_at fs k).enable.value s ≡ 1 → FitsIn (reserve_at fs k).addr s
fitting_at s [] h k l = absurd (omega arith)
fitting_at s (f ∷ fs) h zero l = h.0
fitting_at s (f ∷ fs) h (suc k) l = fitting_at s fs h.1 k (omega arith)

-- the addresses that a stage reserves fit, where those of its thread do as that moves
pub fitting_stage : (s : State) (m : ℕ) (moves : Signal) (g : Bool)
    → moves.value s ≡ bit g → (rs : List Reservation) → (g ≡ true → AddressesFit s rs)
    → AreFitting s (reserves_to m moves rs)
fitting_stage s m moves g e [] h = tt
fitting_stage s m moves g e (r ∷ rs) h = at (fitting_stage s m moves g e rs (λ z. (h z).1)) (r.mem == m)
  where
    made : (both moves r.on).value s ≡ 1 → FitsIn r.addr s
    made i =
        let both_on : (g && is_on r.on s) ≡ true = sym (both_is s moves r.on g e) ∙ ap (λ n. n == 1) i in
        let parts = and_parts g (is_on r.on s) both_on in
        (h parts.0).0 parts.1

    at : AreFitting s (reserves_to m moves rs) → (b : Bool)
        → AreFitting s (if b then record { enable = both moves r.on; addr = r.addr } ∷ reserves_to m moves rs else reserves_to m moves rs)
    at i true = (made, i)
    at i false = i

-- whether a stage releases the memory, beside so many releases of other stages
pub lets_stage : (s : State) (m : ℕ) (moves : Signal) (g : Bool)
    → moves.value s ≡ bit g → (ls : List Letting) (rest : Signal) (n : ℕ) → rest.value s ≡ bit (nat_lt 0 n)
    → (release_moves m moves ls rest).value s ≡ bit (nat_lt 0 (n + (if g then releases_of m (let_in s ls) else 0)))
lets_stage s m moves true e [] rest n h = h ∙ ap (λ k. bit (nat_lt 0 k)) (sym (add-zero n))
lets_stage s m moves false e [] rest n h = h ∙ ap (λ k. bit (nat_lt 0 k)) (sym (add-zero n))
lets_stage s m moves false e (l ∷ ls) rest n h = at (l.mem == m) (lets_stage s m moves false e ls rest n h)
  where
    at : (t : Bool) → (release_moves m moves ls rest).value s ≡ bit (nat_lt 0 (n + 0))
        → (if t then mux_signal (both moves l.on) one (release_moves m moves ls rest) else release_moves m moves ls rest).value s ≡ bit (nat_lt 0 (n + 0))
    at true i =
        mux_by s (both moves l.on) one (release_moves m moves ls rest)
        ∙ ap (λ t. if t then one.value s else (release_moves m moves ls rest).value s) (both_is s moves l.on false e)
        ∙ i
    at false i = i
lets_stage s m moves true e (l ∷ ls) rest n h = at (is_on l.on s) (both_is s moves l.on true e) (lets_stage s m moves true e ls rest n h)
  where
    more : Signal
    more = release_moves m moves ls rest

    left : ℕ
    left = releases_of m (let_in s ls)

    at : (o : Bool) → ((both moves l.on).value s == 1) ≡ o → more.value s ≡ bit (nat_lt 0 (n + left))
        → (if l.mem == m then mux_signal (both moves l.on) one more else more).value s
        ≡ bit (nat_lt 0 (n + releases_of m (if o then l.mem ∷ let_in s ls else let_in s ls)))
    at true f i = by (l.mem == m)
      where
        by : (t : Bool) → (if t then mux_signal (both moves l.on) one more else more).value s ≡ bit (nat_lt 0 (n + (if t then suc left else left)))
        by true =
            mux_by s (both moves l.on) one more ∙ ap (λ t. if t then one.value s else more.value s) f ∙ one_is s
            ∙ ap bit (sym (lt-ltb 0 (n + suc left) (omega arith)))
        by false = i
    at false f i = by (l.mem == m)
      where
        by : (t : Bool) → (if t then mux_signal (both moves l.on) one more else more).value s ≡ bit (nat_lt 0 (n + left))
        by true = mux_by s (both moves l.on) one more ∙ ap (λ t. if t then one.value s else more.value s) f ∙ i
        by false = i

lt_suc : (k : ℕ) → nat_lt 1 (suc k) ≡ nat_lt 0 k
lt_suc zero = refl
lt_suc (suc k) = lt-ltb 1 (suc (suc k)) (omega arith) ∙ sym (lt-ltb 0 (suc k) (omega arith))

-- whether there is a second release of the memory with those of a stage, beside so many releases of other stages
pub seconds_stage : (s : State) (m : ℕ) (moves : Signal) (g : Bool)
    → moves.value s ≡ bit g → (ls : List Letting) (any rest : Signal) (n : ℕ) → any.value s ≡ bit (nat_lt 0 n) → rest.value s ≡ bit (nat_lt 1 n)
    → (second_moves m moves ls any rest).value s ≡ bit (nat_lt 1 (n + (if g then releases_of m (let_in s ls) else 0)))
seconds_stage s m moves true e [] any rest n f h = h ∙ ap (λ k. bit (nat_lt 1 k)) (sym (add-zero n))
seconds_stage s m moves false e [] any rest n f h = h ∙ ap (λ k. bit (nat_lt 1 k)) (sym (add-zero n))
seconds_stage s m moves false e (l ∷ ls) any rest n f h = at (l.mem == m) (seconds_stage s m moves false e ls any rest n f h)
  where
    more : Signal
    more = second_moves m moves ls any rest

    at : (t : Bool) → more.value s ≡ bit (nat_lt 1 (n + 0))
        → (if t then mux_signal (both moves l.on) (release_moves m moves ls any) more else more).value s ≡ bit (nat_lt 1 (n + 0))
    at true i =
        mux_by s (both moves l.on) (release_moves m moves ls any) more
        ∙ ap (λ t. if t then (release_moves m moves ls any).value s else more.value s) (both_is s moves l.on false e)
        ∙ i
    at false i = i
seconds_stage s m moves true e (l ∷ ls) any rest n f h = at (is_on l.on s) (both_is s moves l.on true e) (seconds_stage s m moves true e ls any rest n f h)
  where
    first : Signal
    first = release_moves m moves ls any

    more : Signal
    more = second_moves m moves ls any rest

    left : ℕ
    left = releases_of m (let_in s ls)

    at : (o : Bool) → ((both moves l.on).value s == 1) ≡ o → more.value s ≡ bit (nat_lt 1 (n + left))
        → (if l.mem == m then mux_signal (both moves l.on) first more else more).value s
        ≡ bit (nat_lt 1 (n + releases_of m (if o then l.mem ∷ let_in s ls else let_in s ls)))
    at true g i = by (l.mem == m)
      where
        by : (t : Bool) → (if t then mux_signal (both moves l.on) first more else more).value s ≡ bit (nat_lt 1 (n + (if t then suc left else left)))
        by true =
            mux_by s (both moves l.on) first more ∙ ap (λ t. if t then first.value s else more.value s) g
            ∙ lets_stage s m moves true e ls any n f
            ∙ ap bit (sym (lt_suc (n + left)) ∙ ap (nat_lt 1) (let z : suc (n + left) ≡ n + suc left = omega arith in z))
        by false = i
    at false g i = by (l.mem == m)
      where
        by : (t : Bool) → (if t then mux_signal (both moves l.on) first more else more).value s ≡ bit (nat_lt 1 (n + left))
        by true = mux_by s (both moves l.on) first more ∙ ap (λ t. if t then first.value s else more.value s) g ∙ i
        by false = i

-- a write port does what it is to do
pub record IsDriven (w : ℕ) (s : State) (a : WriteAct) (f : TicketSignal) : Type 0 where
  pub on : f.enable.value s ≡ bit a.on
  pub ticket : a.on ≡ true → holds_ticket w f.ticket s a.ticket
  pub value : f.value.value s ≡ a.value

-- each write port does what it is to do, and there are as many of them as writes
abbrev pub AreDriven : ℕ → State → List WriteAct → List TicketSignal → Type 0
AreDriven w s [] [] = ⊤
AreDriven w s (a ∷ as') (f ∷ fs) = IsDriven w s a f × AreDriven w s as' fs
AreDriven w s _ _ = ⊥

-- where the write ports of two lists do what they are to do, those of both together do
pub driven_append : (w : ℕ) (s : State) (as' bs : List WriteAct) (fs gs : List TicketSignal) → AreDriven w s as' fs
    → AreDriven w s bs gs → AreDriven w s (as' ++ bs) (fs ++ gs)
driven_append w s [] bs [] gs h i = i
driven_append w s [] bs (f ∷ fs) gs h i = absurd h
driven_append w s (a ∷ as') bs [] gs h i = absurd h
driven_append w s (a ∷ as') bs (f ∷ fs) gs h i = (h.0, driven_append w s as' bs fs gs h.1 i)

-- there are as many writes as write ports that do them
pub driven_count : (w : ℕ) (s : State) (as' : List WriteAct) (fs : List TicketSignal) → AreDriven w s as' fs → length as' ≡ length fs
driven_count w s [] [] h = refl
driven_count w s [] (f ∷ fs) h = absurd h
driven_count w s (a ∷ as') [] h = absurd h
driven_count w s (a ∷ as') (f ∷ fs) h = ap suc (driven_count w s as' fs h.1)

-- where write ports do what they are to do, each of them does
pub driven_at : (w : ℕ) (s : State) (as' : List WriteAct) (fs : List TicketSignal) → AreDriven w s as' fs → (k : ℕ)
    → k < length as' → IsDriven w s (lock.act_at as' k) (ticket_at fs k)
driven_at w s [] fs h k l = absurd (omega arith)
driven_at w s (a ∷ as') [] h k l = absurd h
driven_at w s (a ∷ as') (f ∷ fs) h zero l = h.0
driven_at w s (a ∷ as') (f ∷ fs) h (suc k) l = driven_at w s as' fs h.1 k (omega arith)

-- the write ports of a stage, with the tickets of its locations
pub driven_stage : (w : ℕ) (s : State) (m : ℕ) (number : ℕ → ℕ) (moves : Signal) (ticket : ℕ → Signal) (g : Bool) (xs : List Put)
    → moves.value s ≡ bit g → (g ≡ true → AreBits s xs)
    → (g ≡ true → EachTo m (λ y. holds_ticket w (ticket y) s (number y)) (written_in s xs))
    → AreDriven w s (write_acts s m g number xs) (puts_to m moves ticket xs)
driven_stage w s m number moves ticket g [] e b h = tt
driven_stage w s m number moves ticket g (x ∷ xs) e b h =
    at (is_on x.on s) refl (x.mem == m) refl h (λ f. driven_stage w s m number moves ticket g xs e (λ z. (b z).1) f)
  where
    Holds : List Written → Type 0
    Holds ws = EachTo m (λ y. holds_ticket w (ticket y) s (number y)) ws

    Tail : Type 0
    Tail = AreDriven w s (write_acts s m g number xs) (puts_to m moves ticket xs)

    on : (both moves x.on).value s ≡ bit (g && is_on x.on s)
    on = both_at s moves x.on g (is_on x.on s) e (λ z. (b z).0)

    at : (o : Bool) → is_on x.on s ≡ o → (c : Bool) → (x.mem == m) ≡ c
        → (g ≡ true → Holds (if o then record { mem = x.mem; var = x.var; value = x.value.value s } ∷ written_in s xs else written_in s xs))
        → ((g ≡ true → Holds (written_in s xs)) → Tail)
        → AreDriven w s
        (if c
        then record { on = g && is_on x.on s; ticket = number x.var; value = x.value.value s } ∷ write_acts s m g number xs
        else write_acts s m g number xs)
        (if c then record { enable = both moves x.on; ticket = ticket x.var; value = x.value } ∷ puts_to m moves ticket xs else puts_to m moves ticket xs)
    at true f true i h rest = (
      record { on = on; ticket = λ z. (h (and_parts g (is_on x.on s) z).0).0 i; value = refl },
      rest (λ z. (h z).1),
    )
    at true f false i h rest = rest (λ z. (h z).1)
    at false f true i h rest = (
      record { on = on; ticket = λ z. absurd (false≢true (sym f ∙ (and_parts g (is_on x.on s) z).1)); value = refl },
      rest h,
    )
    at false f false i h rest = rest h

-- WHO MOVES

-- nobody moves out of a stage, or its thread does
pub moves_or_not : (p : Pipe) (st : machine.State) (bits : List Bool) (k : ℕ)
    → (stage_moves p st bits k ≡ false) ⊎ ((t : Thread) × (here p st bits k ≡ Some t) × (stage_moves p st bits k ≡ true))
moves_or_not p st bits k = at (stage_moves p st bits k) (here p st bits k) refl refl
  where
    at : (b : Bool) (o : Option Thread) → stage_moves p st bits k ≡ b → here p st bits k ≡ o
        → (stage_moves p st bits k ≡ false) ⊎ ((t : Thread) × (here p st bits k ≡ Some t) × (stage_moves p st bits k ≡ true))
    at false o e h = inl e
    at true (Some t) e h = inr (t, h, e)
    at true None e h = absurd (false≢true (sym (ap (slot_moves p st bits k) h) ∙ e))

-- no thread moves out of a stage whose thread does not move
pub no_mover : (p : Pipe) (st : machine.State) (bits : List Bool) (k : ℕ)
    → stage_moves p st bits k ≡ false → mover p st k (stage_moves p st bits k) (here p st bits k) ≡ []
no_mover p st bits k e = ap (λ b. mover p st k b (here p st bits k)) e

-- where the thread of a stage moves, it alone moves out of the stage, with what it does
pub one_mover : (p : Pipe) (st : machine.State) (bits : List Bool) (k : ℕ) (t : Thread)
    → here p st bits k ≡ Some t → stage_moves p st bits k ≡ true
    → mover p st k (stage_moves p st bits k) (here p st bits k) ≡ act_at p st k t ∷ []
one_mover p st bits k t h e = ap₂ (mover p st k) e h
