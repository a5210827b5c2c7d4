-- How many reservations of a list were made before a cycle.
use Rattle.std.proofs.Common.{◌≡◌, refl, sym, ap, ◌∙◌, ℕ, zero, suc, ◌+◌, ◌<◌, ◌≤◌, Bool, true, false, not, cond, List, [], ◌∷◌, ◌++◌, length, take, drop, filter, All, arith, lt-ltb, le-ltb}
use Rattle.std.specs.Prelude.{nat_lt, if◌then◌else◌, ⊤}
use Rattle.pdl_lock_any.specs.History.{Reservation, numbered}

-- how many were made before cycle c
abbrev pub count_made : ℕ → List Reservation → ℕ
count_made c [] = 0
count_made c (r ∷ rs) = if nat_lt r.cycle c then suc (count_made c rs) else count_made c rs

-- no more than there are
pub count_le : (c : ℕ) (rs : List Reservation) → count_made c rs ≤ length rs
count_le c [] = omega arith
count_le c (r ∷ rs) = at (nat_lt r.cycle c) (count_le c rs)
  where
    at : (o : Bool) → count_made c rs ≤ length rs → (if o then suc (count_made c rs) else count_made c rs) ≤ suc (length rs)
    at true h = omega (arith, h)
    at false h = omega (arith, h)

-- of joined lists it is the sum
pub count_append : (c : ℕ) (rs qs : List Reservation) → count_made c (rs ++ qs) ≡ count_made c rs + count_made c qs
count_append c [] qs = omega arith
count_append c (r ∷ rs) qs = at (nat_lt r.cycle c) (count_append c rs qs)
  where
    at : (o : Bool) → count_made c (rs ++ qs) ≡ count_made c rs + count_made c qs
        → (if o then suc (count_made c (rs ++ qs)) else count_made c (rs ++ qs))
        ≡ (if o then suc (count_made c rs) else count_made c rs) + count_made c qs
    at true h = omega (arith, h)
    at false h = h

-- where those that are taken out were all made before the cycle, there are as many fewer
pub count_drop : (c k : ℕ) (rs : List Reservation) → k ≤ length rs → All (λ r. r.cycle < c) (take k rs)
    → count_made c rs ≡ count_made c (drop k rs) + k
count_drop c zero rs h p = omega arith
count_drop c (suc k) [] h p = absurd (omega (arith, h))
count_drop c (suc k) (r ∷ rs) h p =
    let b : r.cycle < c = p 0 r (omega arith) in
    let i : count_made c rs ≡ count_made c (drop k rs) + k = count_drop c k rs (omega (arith, h)) (λ j d l. p (suc j) d (omega (arith, l))) in
    let e : suc (count_made c rs) ≡ count_made c (drop k rs) + suc k = omega (arith, i) in
    ap (λ o. cond o (suc (count_made c rs)) (count_made c rs)) (lt-ltb r.cycle c b) ∙ e

-- where those that a test leaves out were all made in the cycle or later, there are as many
pub count_filter : (c : ℕ) (keep : Reservation → Bool) (rs : List Reservation) → All (λ r. c ≤ r.cycle) (filter (λ r. not (keep r)) rs)
    → count_made c (filter keep rs) ≡ count_made c rs
count_filter c keep [] p = refl
count_filter c keep (r ∷ rs) p = at (keep r) p (count_filter c keep rs)
  where
    at : (o : Bool) → All (λ q. c ≤ q.cycle) (cond (not o) (r ∷ filter (λ q. not (keep q)) rs) (filter (λ q. not (keep q)) rs))
        → (All (λ q. c ≤ q.cycle) (filter (λ q. not (keep q)) rs) → count_made c (filter keep rs) ≡ count_made c rs)
        → count_made c (cond o (r ∷ filter keep rs) (filter keep rs)) ≡ (if nat_lt r.cycle c then suc (count_made c rs) else count_made c rs)
    at true p f = ap (λ n. cond (nat_lt r.cycle c) (suc n) n) (f p)
    at false p f =
        let b : c ≤ r.cycle = p 0 r (omega arith) in
        f (λ j d l. p (suc j) d (omega (arith, l))) ∙ sym (ap (λ o. cond o (suc (count_made c rs)) (count_made c rs)) (le-ltb r.cycle c b))

-- none of what one cycle makes was made before an earlier one
pub count_later : (c d t : ℕ) (addresses : List ℕ) → c ≤ d → count_made c (numbered d t addresses) ≡ 0
count_later c d t [] h = refl
count_later c d t (a ∷ addresses) h =
    ap (λ o. cond o (suc (count_made c (numbered d (suc t) addresses))) (count_made c (numbered d (suc t) addresses))) (le-ltb d c h)
    ∙ count_later c d (suc t) addresses h

-- all were made before cycle c
abbrev pub AreBefore : ℕ → List Reservation → Type 0
AreBefore c [] = ⊤
AreBefore c (r ∷ rs) = (r.cycle < c) × AreBefore c rs

-- then they are as many as there are
pub count_before : (c : ℕ) (rs : List Reservation) → AreBefore c rs → count_made c rs ≡ length rs
count_before c [] b = refl
count_before c (r ∷ rs) b =
    ap (λ o. cond o (suc (count_made c rs)) (count_made c rs)) (lt-ltb r.cycle c b.0) ∙ ap suc (count_before c rs b.1)

-- and before each later cycle
pub before_later : (c d : ℕ) (rs : List Reservation) → c ≤ d → AreBefore c rs → AreBefore d rs
before_later c d [] h b = tt
before_later c d (r ∷ rs) h b = (omega (arith, h, b.0), before_later c d rs h b.1)

-- joined lists
pub before_append : (c : ℕ) (rs qs : List Reservation) → AreBefore c rs → AreBefore c qs → AreBefore c (rs ++ qs)
before_append c [] qs b d = d
before_append c (r ∷ rs) qs b d = (b.0, before_append c rs qs b.1 d)

-- what one cycle makes
pub before_made : (c d t : ℕ) (addresses : List ℕ) → d < c → AreBefore c (numbered d t addresses)
before_made c d t [] h = tt
before_made c d t (a ∷ addresses) h = (h, before_made c d (suc t) addresses h)

-- what is left after some were taken out
pub before_drop : (c k : ℕ) (rs : List Reservation) → AreBefore c rs → AreBefore c (drop k rs)
before_drop c zero rs b = b
before_drop c (suc k) [] b = tt
before_drop c (suc k) (r ∷ rs) b = before_drop c k rs b.1

-- what a test leaves
pub before_filter : (c : ℕ) (keep : Reservation → Bool) (rs : List Reservation) → AreBefore c rs → AreBefore c (filter keep rs)
before_filter c keep [] b = tt
before_filter c keep (r ∷ rs) b = at (keep r) (before_filter c keep rs b.1)
  where
    at : (o : Bool) → AreBefore c (filter keep rs) → AreBefore c (cond o (r ∷ filter keep rs) (filter keep rs))
    at true d = (b.0, d)
    at false d = d

-- as many reservations as addresses
pub numbered_long : (c t : ℕ) (addresses : List ℕ) → length (numbered c t addresses) ≡ length addresses
numbered_long c t [] = refl
numbered_long c t (a ∷ addresses) = ap suc (numbered_long c (suc t) addresses)
