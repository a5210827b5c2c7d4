-- The value of a port in a cycle, by the last of the changes before it.
use Rattle.std.proofs.Common.{◌≡◌, refl, sym, ◌∙◌, ap, ℕ, zero, suc, ◌+◌, ◌<◌, ◌==◌, Bool, true, false, List, [], ◌∷◌, ◌++◌, length, get_or, Option, Some, None, slice_get, if◌then◌else◌, arith}
use Rattle.std.specs.Prelude.{nat_le}
use Rattle.std.specs.Option.{option_or}
use Rattle.std.proofs.lemmas.Bool.{cond-true, cond-false, cond_both, eqb-true, eq-eqb, ne_eqb, le-leb, lt-leb, not-false}
use Rattle.pdl_word.specs.Each.{Each}
use Rattle.pdl_wave.specs.Moments.{Change, Moment, differs, changes, with_moment, moments, taken, value_in}

-- ---- options

-- a value, or else none, is that value
pub or_none : (o : Option ℕ) → option_or o None ≡ o
or_none None = refl
or_none (Some v) = refl

or_assoc : (o p q : Option ℕ) → option_or (option_or o p) q ≡ option_or o (option_or p q)
or_assoc None p q = refl
or_assoc (Some v) p q = refl

abbrev no_value : Option ℕ
no_value = None

none_both : (b : Bool) → (if b then no_value else no_value) ≡ no_value
none_both true = refl
none_both false = refl

-- ---- one cycle

-- a port before those that are told isn't among them
taken_before : (i j : ℕ) (before vs : List ℕ) → i < j → taken i (changes j before vs) ≡ None
taken_before i j before [] l = refl
taken_before i j before (v ∷ vs) l =
    let rest = taken_before i (suc j) before vs (omega arith) in
    let other : (j == i) ≡ false = ne_eqb j i (λ e. omega (arith, e, l)) in
    cond_both (differs (slice_get before j) v) (record { port = j; value = v } ∷ changes (suc j) before vs)
    (changes (suc j) before vs) (λ xs. taken i xs ≡ None)
    (λ h. cond-false _ _ _ other ∙ rest) (λ h. rest)

-- of two values that don't differ the one before is the one now
same_value : (o : Option ℕ) (v : ℕ) → differs o v ≡ false → o ≡ Some v
same_value None v h = absurd (cc h)
same_value (Some u) v h = ap Some (eqb-true u v (not-false (u == v) h))

-- the value now is that of the change, or the one before
value_now : (j i : ℕ) (before vs : List ℕ)
    → i < length vs → option_or (taken (j + i) (changes j before vs)) (slice_get before (j + i)) ≡ Some (get_or vs i 0)
value_now j i before [] l = absurd (omega (arith, l))
value_now j zero before (v ∷ vs) l =
    let e : j + 0 ≡ j = omega arith in
    let none = taken_before j (suc j) before vs (omega arith) in
    ap (λ k. option_or (taken k (changes j before (v ∷ vs))) (slice_get before k)) e
    ∙ cond_both (differs (slice_get before j) v) (record { port = j; value = v } ∷ changes (suc j) before vs)
    (changes (suc j) before vs) (λ xs. option_or (taken j xs) (slice_get before j) ≡ Some v)
    (λ h. ap (λ o. option_or o (slice_get before j)) (cond-true _ _ _ (eq-eqb j j refl)))
    (λ h. ap (λ o. option_or o (slice_get before j)) none ∙ same_value (slice_get before j) v h)
value_now j (suc i) before (v ∷ vs) l =
    let e : suc j + i ≡ j + suc i = omega arith in
    let later : option_or (taken (j + suc i) (changes (suc j) before vs)) (slice_get before (j + suc i)) ≡ Some (get_or vs i 0) =
    ap (λ k. option_or (taken k (changes (suc j) before vs)) (slice_get before k)) (sym e) ∙ value_now (suc j) i before vs (omega (arith, l)) in
    let other : (j == j + suc i) ≡ false = ne_eqb j (j + suc i) (λ same. omega (arith, same)) in
    cond_both (differs (slice_get before j) v) (record { port = j; value = v } ∷ changes (suc j) before vs)
    (changes (suc j) before vs)
    (λ xs. option_or (taken (j + suc i) xs) (slice_get before (j + suc i)) ≡ Some (get_or vs i 0))
    (λ h. ap (λ o. option_or o (slice_get before (j + suc i))) (cond-false _ _ _ other) ∙ later)
    (λ h. later)

-- the value at a place that a list has is found there
pub got : (vs : List ℕ) (i : ℕ) → i < length vs → slice_get vs i ≡ Some (get_or vs i 0)
got [] i l = absurd (omega (arith, l))
got (v ∷ vs) zero l = refl
got (v ∷ vs) (suc i) l = got vs i (omega (arith, l))

-- a port's value in a cycle is the one it changes to, else the one before
pub now_by_changes : (i : ℕ) (before vs : List ℕ)
    → i < length vs → option_or (taken i (changes 0 before vs)) (slice_get before i) ≡ Some (get_or vs i 0)
now_by_changes i before vs l =
    let e : 0 + i ≡ i = omega arith in
    ap (λ k. option_or (taken k (changes 0 before vs)) (slice_get before k)) (sym e) ∙ value_now 0 i before vs l

-- ---- the cycles

-- what a cycle adds to the moments after it
with_value : (k : ℕ) (xs : List Change) (later : List Moment) (c i : ℕ) →
    value_in (with_moment k xs later) c i ≡ option_or (value_in later c i) (if nat_le k c then taken i xs else None)
with_value k [] later c i = sym (ap (option_or (value_in later c i)) (none_both (nat_le k c)) ∙ or_none (value_in later c i))
with_value k (x ∷ xs) later c i = refl

-- no change is told before its cycle
pub none_before : (rest : List (List ℕ)) (k : ℕ) (before : List ℕ) (c i : ℕ) → c < k → value_in (moments k before rest) c i ≡ None
none_before [] k before c i l = refl
none_before (now ∷ rest) k before c i l =
    with_value k (changes 0 before now) (moments (suc k) now rest) c i
    ∙ ap (λ o. option_or o (if nat_le k c then taken i (changes 0 before now) else None)) (none_before rest (suc k) now c i (omega arith))
    ∙ cond-false _ _ _ (lt-leb k c l)

-- the value in a cycle is that of the moments up to it, or the one before them
pub values_from : (rest : List (List ℕ)) (n k : ℕ) (before : List ℕ) (c i : ℕ) → Each (λ row. length row ≡ n) rest → c < length rest → i < n →
    option_or (value_in (moments k before rest) (k + c) i) (slice_get before i) ≡ Some (get_or (get_or rest c []) i 0)
values_from [] n k before c i h l m = absurd (omega (arith, l))
values_from (now ∷ rest) n k before zero i h l m =
    let e : k + 0 ≡ k = omega arith in
    let inside : i < length now = omega (arith, h.0, m) in
    ap (λ c. option_or (value_in (moments k before (now ∷ rest)) c i) (slice_get before i)) e
    ∙ ap (λ o. option_or o (slice_get before i))
    (with_value k (changes 0 before now) (moments (suc k) now rest) k i
    ∙ ap (λ o. option_or o (if nat_le k k then taken i (changes 0 before now) else None)) (none_before rest (suc k) now k i (omega arith))
    ∙ cond-true _ _ _ (le-leb k k (omega arith)))
    ∙ now_by_changes i before now inside
values_from (now ∷ rest) n k before (suc c) i h l m =
    let e : k + suc c ≡ suc k + c = omega arith in
    let inside : i < length now = omega (arith, h.0, m) in
    let later = value_in (moments (suc k) now rest) (suc k + c) i in
    ap (λ t. option_or (value_in (moments k before (now ∷ rest)) t i) (slice_get before i)) e
    ∙ ap (λ o. option_or o (slice_get before i))
    (with_value k (changes 0 before now) (moments (suc k) now rest) (suc k + c) i
    ∙ ap (option_or later) (cond-true _ _ _ (le-leb k (suc k + c) (omega arith))))
    ∙ or_assoc later (taken i (changes 0 before now)) (slice_get before i)
    ∙ ap (option_or later) (now_by_changes i before now inside ∙ sym (got now i inside))
    ∙ values_from rest n (suc k) now c i h.1 (omega (arith, l)) m

-- a last moment without changes takes nothing away
pub with_last : (ms : List Moment) (last c i : ℕ) → value_in (ms ++ record { time = last; changes = [] } ∷ []) c i ≡ value_in ms c i
with_last [] last c i = none_both (nat_le last c)
with_last (m ∷ ms) last c i = ap (λ o. option_or o (if nat_le m.time c then taken i m.changes else None)) (with_last ms last c i)
