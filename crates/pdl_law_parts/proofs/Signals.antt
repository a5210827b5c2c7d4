-- Signals of one bit, and lists of which those count whose condition is 1.
use Rattle.std.proofs.Common.{◌≡◌, refl, sym, ap, ◌∙◌, ℕ, suc, Bool, true, false, ◌&&◌, List, [], ◌∷◌, ◌++◌, ◌==◌, arith, lt-ltb}
use Rattle.std.specs.Prelude.{if◌then◌else◌, nat_lt}
use Rattle.pdl_word.specs.Words.{bit, mux}
use Rattle.pdl_semantics.specs.Machine.{Reserved, Written, reserves_of}
use Rattle.pdl_semantics.specs.Machine as machine
use Rattle.pdl_net.specs.Circuit.{State}
use Rattle.pdl_net.specs.Signal.{Signal, const_value, mux_value, mux_signal}
use Rattle.pdl_law_parts.specs.Walk.{Reservation, Put, Letting, one, zero_bit, both, if_on, is_on, reserved_signal, Ask, Advising}
use Rattle.pdl_lockapi.specs.Laws.{FitsIn}
use Rattle.pdl_law_parts.specs.Stands.{AddressesFit, AreBits, reserved_in, written_in, let_in, asked_in, advised_in}

-- a choice by a bit has the value of the arm that the bit takes
pub mux_at : (s : State) (a b c : Signal) (x : Bool) → a.value s ≡ bit x → (mux_signal a b c).value s ≡ (if x then b.value s else c.value s)
unfolding mux_value mux
mux_at s a b c x e = ap (λ n. if n == 1 then b.value s else c.value s) e ∙ at x
  where
    at : (x : Bool) → (if bit x == 1 then b.value s else c.value s) ≡ (if x then b.value s else c.value s)
    at true = refl
    at false = refl

-- a choice by a number
pub mux_by : (s : State) (a b c : Signal) → (mux_signal a b c).value s ≡ (if a.value s == 1 then b.value s else c.value s)
unfolding mux_value mux
mux_by s a b c = refl

-- both of two bits, where the second matters only beside the first
pub both_at : (s : State) (a b : Signal) (x y : Bool)
    → a.value s ≡ bit x → (x ≡ true → b.value s ≡ bit y) → (both a b).value s ≡ bit (x && y)
unfolding const_value
both_at s a b true y e f = mux_at s a b zero_bit true e ∙ f refl
both_at s a b false y e f = mux_at s a b zero_bit false e

-- the bit that is always 1 has the value 1
pub one_is : (s : State) → one.value s ≡ 1
unfolding const_value
one_is s = refl

-- the bit that is always 0 has the value 0
pub zero_is : (s : State) → zero_bit.value s ≡ 0
unfolding const_value
zero_is s = refl

-- a condition that counts only on the path
pub if_on_at : (s : State) (on f : Signal) (x y : Bool)
    → on.value s ≡ bit x → (x ≡ true → f.value s ≡ bit y) → (if_on on f).value s ≡ bit (if x then y else true)
unfolding const_value
if_on_at s on f true y e g = mux_at s on f one true e ∙ g refl
if_on_at s on f false y e g = mux_at s on f one false e

-- a signal with the bit of a truth value is on where that is true
pub on_is : (s : State) (f : Signal) (b : Bool) → f.value s ≡ bit b → is_on f s ≡ b
on_is s f b e = ap (λ n. n == 1) e ∙ at b
  where
    at : (b : Bool) → (bit b == 1) ≡ b
    at true = refl
    at false = refl

-- with a reservation more, what is reserved is that of the others, and its own where its condition is 1
pub reserved_more : (s : State) (rs : List Reservation) (r : Reservation)
    → reserved_in s (rs ++ r ∷ []) ≡ reserved_in s rs
    ++ (if is_on r.on s then record { mem = r.mem; var = r.var; address = r.addr.value s } ∷ [] else [])
reserved_more s [] r = refl
reserved_more s (x ∷ rs) r = at (is_on x.on s) (reserved_more s rs r)
  where
    more : List Reserved
    more = if is_on r.on s then record { mem = r.mem; var = r.var; address = r.addr.value s } ∷ [] else []

    at : (b : Bool) → reserved_in s (rs ++ r ∷ []) ≡ reserved_in s rs ++ more
        → (if b then record { mem = x.mem; var = x.var; address = x.addr.value s } ∷ reserved_in s (rs ++ r ∷ []) else reserved_in s (rs ++ r ∷ []))
        ≡ (if b then record { mem = x.mem; var = x.var; address = x.addr.value s } ∷ reserved_in s rs else reserved_in s rs) ++ more
    at true e = ap (λ l. record { mem = x.mem; var = x.var; address = x.addr.value s } ∷ l) e
    at false e = e

-- whether one of these reservations is of a memory tells whether some are made of it
pub reserved_is : (s : State) (m : ℕ) (rs : List Reservation) → (reserved_signal m rs).value s ≡ bit (nat_lt 0 (reserves_of m (reserved_in s rs)))
reserved_is s m [] = zero_is s
reserved_is s m (r ∷ rs) = at (is_on r.on s) refl (reserved_is s m rs)
  where
    rest : Signal
    rest = reserved_signal m rs

    n : ℕ
    n = reserves_of m (reserved_in s rs)

    mine : Reserved
    mine = record { mem = r.mem; var = r.var; address = r.addr.value s }

    picked : (o : Bool) → is_on r.on s ≡ o → (mux_signal r.on one rest).value s ≡ (if o then one.value s else rest.value s)
    picked o e = mux_by s r.on one rest ∙ ap (λ b. if b then one.value s else rest.value s) e

    at : (o : Bool) → is_on r.on s ≡ o → rest.value s ≡ bit (nat_lt 0 n)
        → (if r.mem == m then mux_signal r.on one rest else rest).value s
        ≡ bit (nat_lt 0 (reserves_of m (if o then mine ∷ reserved_in s rs else reserved_in s rs)))
    at true e h = by (r.mem == m)
      where
        by : (b : Bool) → (if b then mux_signal r.on one rest else rest).value s ≡ bit (nat_lt 0 (if b then suc n else n))
        by true = picked true e ∙ one_is s ∙ sym (ap bit (lt-ltb 0 (suc n) (omega arith)))
        by false = h
    at false e h = by (r.mem == m)
      where
        by : (b : Bool) → (if b then mux_signal r.on one rest else rest).value s ≡ bit (nat_lt 0 n)
        by true = picked false e ∙ h
        by false = h

-- with a reservation more whose address fits where it is made, the addresses of all fit
pub fits_more : (s : State) (rs : List Reservation) (r : Reservation) → AddressesFit s rs
    → (is_on r.on s ≡ true → FitsIn r.addr s) → AddressesFit s (rs ++ r ∷ [])
fits_more s [] r h f = (f, tt)
fits_more s (x ∷ rs) r h f = (h.0, fits_more s rs r h.1 f)

-- with a write more, what is written is that of the others, and its own where its condition is 1
pub written_more : (s : State) (xs : List Put) (y : Put)
    → written_in s (xs ++ y ∷ []) ≡ written_in s xs ++ (if is_on y.on s then record { mem = y.mem; var = y.var; value = y.value.value s } ∷ [] else [])
written_more s [] y = refl
written_more s (x ∷ xs) y = at (is_on x.on s) (written_more s xs y)
  where
    more : List Written
    more = if is_on y.on s then record { mem = y.mem; var = y.var; value = y.value.value s } ∷ [] else []

    at : (b : Bool) → written_in s (xs ++ y ∷ []) ≡ written_in s xs ++ more
        → (if b then record { mem = x.mem; var = x.var; value = x.value.value s } ∷ written_in s (xs ++ y ∷ []) else written_in s (xs ++ y ∷ []))
        ≡ (if b then record { mem = x.mem; var = x.var; value = x.value.value s } ∷ written_in s xs else written_in s xs) ++ more
    at true e = ap (λ l. record { mem = x.mem; var = x.var; value = x.value.value s } ∷ l) e
    at false e = e

-- with a release more, the memories let go are those of the others, and its own where its condition is 1
pub let_more : (s : State) (ls : List Letting) (l : Letting)
    → let_in s (ls ++ l ∷ []) ≡ let_in s ls ++ (if is_on l.on s then l.mem ∷ [] else [])
let_more s [] l = refl
let_more s (x ∷ ls) l = at (is_on x.on s) (let_more s ls l)
  where
    more : List ℕ
    more = if is_on l.on s then l.mem ∷ [] else []

    at : (b : Bool) → let_in s (ls ++ l ∷ []) ≡ let_in s ls ++ more
        → (if b then x.mem ∷ let_in s (ls ++ l ∷ []) else let_in s (ls ++ l ∷ [])) ≡ (if b then x.mem ∷ let_in s ls else let_in s ls) ++ more
    at true e = ap (λ k. x.mem ∷ k) e
    at false e = e

-- with a write more whose condition is a bit, the conditions of all are bits
pub bits_more : (s : State) (xs : List Put) (y : Put) → AreBits s xs → y.on.value s ≡ bit (is_on y.on s) → AreBits s (xs ++ y ∷ [])
bits_more s [] y h e = (e, tt)
bits_more s (x ∷ xs) y h e = (h.0, bits_more s xs y h.1 e)

-- with a request more, what is asked is that of the others, and its own where its condition is 1
pub asked_more : (s : State) (qs : List Ask) (q : Ask)
    → asked_in s (qs ++ q ∷ []) ≡ asked_in s qs
    ++ (if is_on q.on s then record { mem = q.mem; var = q.var; address = q.addr.value s } ∷ [] else [])
asked_more s [] q = refl
asked_more s (x ∷ qs) q = at (is_on x.on s) (asked_more s qs q)
  where
    more : List machine.Ask
    more = if is_on q.on s then record { mem = q.mem; var = q.var; address = q.addr.value s } ∷ [] else []

    at : (b : Bool) → asked_in s (qs ++ q ∷ []) ≡ asked_in s qs ++ more
        → (if b then record { mem = x.mem; var = x.var; address = x.addr.value s } ∷ asked_in s (qs ++ q ∷ []) else asked_in s (qs ++ q ∷ []))
        ≡ (if b then record { mem = x.mem; var = x.var; address = x.addr.value s } ∷ asked_in s qs else asked_in s qs) ++ more
    at true e = ap (λ k. record { mem = x.mem; var = x.var; address = x.addr.value s } ∷ k) e
    at false e = e

-- with an advisory write more, what is written is that of the others, and its own where its condition is 1
pub advised_more : (s : State) (xs : List Advising) (y : Advising)
    → advised_in s (xs ++ y ∷ []) ≡ advised_in s xs
    ++ (if is_on y.on s then record { mem = y.mem; address = y.addr.value s; value = y.value.value s } ∷ [] else [])
advised_more s [] y = refl
advised_more s (x ∷ xs) y = at (is_on x.on s) (advised_more s xs y)
  where
    more : List machine.Advised
    more = if is_on y.on s then record { mem = y.mem; address = y.addr.value s; value = y.value.value s } ∷ [] else []

    mine : machine.Advised
    mine = record { mem = x.mem; address = x.addr.value s; value = x.value.value s }

    at : (b : Bool) → advised_in s (xs ++ y ∷ []) ≡ advised_in s xs ++ more
        → (if b then mine ∷ advised_in s (xs ++ y ∷ []) else advised_in s (xs ++ y ∷ [])) ≡ (if b then mine ∷ advised_in s xs else advised_in s xs) ++ more
    at true e = ap (λ k. mine ∷ k) e
    at false e = e
