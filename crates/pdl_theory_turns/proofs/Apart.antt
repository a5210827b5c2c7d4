-- The locations of a phase without a value are others than those with one and than those that are released.
use Rattle.std.proofs.Common.{◌≡◌, refl, sym, ap, ◌∙◌, ℕ, suc, ◌+◌, length, arith, Bool, true, false, ◌&&◌, ◌||◌, not, List, [], ◌∷◌, ◌==◌, cond, if◌then◌else◌}
use Rattle.std.proofs.lemmas.Bool.{eqb-true, not-true}
use Rattle.pdl_theory_turns.specs.Alone.{is_among, is_oldest, drop_var, but_last}
use Rattle.pdl_theory_turns.proofs.Writes.{and_left, and_right}
use Rattle.pdl_theory_turns.specs.Scans.{Phase, Fresh, after_write, after_reserve, after_release, may_write, is_new, next_phase, phase_ok, phases_ok, phase_all, no_guards, write_reserves}
use Rattle.pdl_theory_turns.specs.semantics.Flat.{Op, Write, ReserveWrite, Release, Stmt}
use Rattle.pdl_theory_turns.specs.semantics.Stages.{is_write_reserve}

-- a location without a value is neither one with a value nor a released one
abbrev pub Apart : Phase → Type 0
Apart ph = (x : ℕ) → is_among x ph.unwritten ≡ true → (is_among x ph.full ≡ false) × (is_among x ph.gone ≡ false)

-- so it is before the first reservation
pub apart_fresh : Apart Fresh
apart_fresh x h = absurd (cc h)

-- after a reservation
pub apart_reserve : (ph : Phase) (a : ℕ) → is_new ph a ≡ true → Apart ph → Apart (after_reserve ph a)
apart_reserve ph a h f x k = at (a == x) refl k
  where
    new : (is_among a ph.full ≡ false) × (is_among a ph.gone ≡ false)
    new =
        let r = and_right (not (is_among a ph.unwritten)) _ h in
        (not-true _ (and_left (not (is_among a ph.full)) _ r), not-true _ (and_right (not (is_among a ph.full)) _ r))

    at : (b : Bool) → (a == x) ≡ b → (b || is_among x ph.unwritten) ≡ true → (is_among x ph.full ≡ false) × (is_among x ph.gone ≡ false)
    at true e g = (ap (λ y. is_among y ph.full) (sym (eqb-true a x e)) ∙ new.0, ap (λ y. is_among y ph.gone) (sym (eqb-true a x e)) ∙ new.1)
    at false e g = f x g

-- the oldest stands once
pub oldest_once : (a : ℕ) (xs : List ℕ) → is_oldest a xs ≡ true → is_among a (but_last xs) ≡ false
oldest_once a [] h = refl
oldest_once a (x ∷ []) h = refl
oldest_once a (x ∷ y ∷ ys) h = at (x == a) h (oldest_once a (y ∷ ys))
  where
    at : (b : Bool)
        → (not b && is_oldest a (y ∷ ys)) ≡ true → (is_oldest a (y ∷ ys) ≡ true → is_among a (but_last (y ∷ ys)) ≡ false)
        → (b || is_among a (but_last (y ∷ ys))) ≡ false
    at true k g = absurd (cc k)
    at false k g = g k

-- what is among all but the oldest is among all
pub front_among : (x : ℕ) (xs : List ℕ) → is_among x (but_last xs) ≡ true → is_among x xs ≡ true
front_among x [] h = absurd (cc h)
front_among x (y ∷ []) h = absurd (cc h)
front_among x (y ∷ z ∷ zs) h = at (y == x) h (front_among x (z ∷ zs))
  where
    at : (b : Bool)
        → (b || is_among x (but_last (z ∷ zs))) ≡ true → (is_among x (but_last (z ∷ zs)) ≡ true → is_among x (z ∷ zs) ≡ true)
        → (b || is_among x (z ∷ zs)) ≡ true
    at true k g = refl
    at false k g = g k

-- after a write
pub apart_write : (ph : Phase) (a : ℕ) → may_write ph a ≡ true → Apart ph → Apart (after_write ph a)
apart_write ph a h f x k = at (a == x) refl
  where
    there : (is_among x ph.full ≡ false) × (is_among x ph.gone ≡ false)
    there = f x (front_among x ph.unwritten k)

    at : (b : Bool) → (a == x) ≡ b → ((b || is_among x ph.full) ≡ false) × (is_among x ph.gone ≡ false)
    at true e = absurd (clash (sym k ∙ ap (λ y. is_among y (but_last ph.unwritten)) (sym (eqb-true a x e)) ∙ oldest_once a ph.unwritten h))
      where
        clash : true ≡ false → ⊥
        clash q = cc
    at false e = there

-- dropping one drops no other
among_drop : (x a : ℕ) (xs : List ℕ) → is_among x xs ≡ false → is_among x (drop_var a xs) ≡ false
among_drop x a [] h = refl
among_drop x a (y ∷ ys) h = at (y == a) (y == x) h (among_drop x a ys)
  where
    at : (b c : Bool)
        → (c || is_among x ys) ≡ false → (is_among x ys ≡ false → is_among x (drop_var a ys) ≡ false)
        → is_among x (cond b ys (y ∷ drop_var a ys)) ≡ false
    at b true k g = absurd (cc k)
    at true false k g = k
    at false false k g = keep (y == x) refl
      where
        keep : (c : Bool) → (y == x) ≡ c → (c || is_among x (drop_var a ys)) ≡ false
        keep true e = absurd (cc (sym h ∙ ap (λ t. t || is_among x ys) e))
        keep false e = g k

-- and after a release
pub apart_release : (ph : Phase) (a : ℕ) → Apart ph → Apart (after_release ph a)
apart_release ph a f = at (is_among a ph.full) refl
  where
    at : (b : Bool) → is_among a ph.full ≡ b → Apart (if b then record { unwritten = ph.unwritten; full = drop_var a ph.full; gone = a ∷ ph.gone } else ph)
    at true e x k = (among_drop x a ph.full (f x k).0, by (a == x) refl)
      where
        by : (c : Bool) → (a == x) ≡ c → (c || is_among x ph.gone) ≡ false
        by true i = absurd (clash (sym e ∙ ap (λ y. is_among y ph.full) (eqb-true a x i) ∙ (f x k).0))
          where
            clash : true ≡ false → ⊥
            clash q = cc
        by false i = (f x k).1
    at false e x k = f x k

-- HOW MANY LOCATIONS

-- those that are reserved so far
abbrev pub total : Phase → ℕ
total ph = length ph.unwritten + (length ph.full + length ph.gone)

-- without the oldest there is one fewer
pub oldest_length : (a : ℕ) (xs : List ℕ) → is_oldest a xs ≡ true → length (but_last xs) + 1 ≡ length xs
oldest_length a [] h = absurd (cc h)
oldest_length a (x ∷ []) h = refl
oldest_length a (x ∷ y ∷ ys) h = let e = oldest_length a (y ∷ ys) (and_right (not (x == a)) _ h) in omega arith

-- the oldest of some variables is among them
pub oldest_among : (a : ℕ) (xs : List ℕ) → is_oldest a xs ≡ true → is_among a xs ≡ true
oldest_among a [] h = absurd (cc h)
oldest_among a (x ∷ []) h = ap (λ b. b || false) h
oldest_among a (x ∷ y ∷ ys) h = at (x == a) h (oldest_among a (y ∷ ys))
  where
    at : (b : Bool) → (not b && is_oldest a (y ∷ ys)) ≡ true → (is_oldest a (y ∷ ys) ≡ true → is_among a (y ∷ ys) ≡ true) → (b || is_among a (y ∷ ys)) ≡ true
    at true k f = refl
    at false k f = f k

-- without one of them there is one fewer
pub drop_length : (a : ℕ) (xs : List ℕ) → is_among a xs ≡ true → length (drop_var a xs) + 1 ≡ length xs
drop_length a [] h = absurd (cc h)
drop_length a (x ∷ xs) h = at (x == a) h (drop_length a xs)
  where
    at : (b : Bool)
        → (b || is_among a xs) ≡ true → (is_among a xs ≡ true → length (drop_var a xs) + 1 ≡ length xs)
        → length (cond b xs (x ∷ drop_var a xs)) + 1 ≡ length (x ∷ xs)
    at true k f = omega arith
    at false k f = let e = f k in omega arith

plus_none : (n : ℕ) → n ≡ n + 0
plus_none n = omega arith

total_op : (m : ℕ) (ph : Phase) (op : Op) → phase_ok m ph op ≡ true → total (next_phase m ph op) ≡ total ph + cond (is_write_reserve m op) 1 0
total_op m ph (Write n a e) h = at (n == m) h
  where
    at : (b : Bool) → (not b || may_write ph a) ≡ true → total (cond b (after_write ph a) ph) ≡ total ph + 0
    at true k = let l = oldest_length a ph.unwritten k in omega arith
    at false k = plus_none _
total_op m ph (ReserveWrite n a) h = at (n == m)
  where
    at : (b : Bool) → total (cond b (after_reserve ph a) ph) ≡ total ph + cond b 1 0
    at true = omega arith
    at false = plus_none _
total_op m ph (Release n a) h = at (n == m) (is_among a ph.full) refl
  where
    at : (b c : Bool)
        → is_among a ph.full ≡ c
        → total (cond b (cond c (record { unwritten = ph.unwritten; full = drop_var a ph.full; gone = a ∷ ph.gone }) ph) ph) ≡ total ph + 0
    at true true e = let l = drop_length a ph.full e in omega arith
    at true false e = plus_none _
    at false c e = plus_none _
total_op m ph _ h = plus_none _

-- as many locations are reserved as there are reservations
pub total_all : (m : ℕ) (ph : Phase) (xs : List Stmt) → phases_ok m ph xs ≡ true → total (phase_all m ph xs) ≡ total ph + write_reserves m xs
total_all m ph [] h = plus_none _
total_all m ph (x ∷ xs) h =
    total_all m (next_phase m ph x.op) xs (and_right (no_guards x.guards && phase_ok m ph x.op) _ h)
    ∙ at (is_write_reserve m x.op) (total_op m ph x.op (and_right (no_guards x.guards) _ (and_left (no_guards x.guards && phase_ok m ph x.op) _ h)))
  where
    at : (b : Bool)
        → total (next_phase m ph x.op) ≡ total ph + cond b 1 0
        → total (next_phase m ph x.op) + write_reserves m xs ≡ total ph + cond b (suc (write_reserves m xs)) (write_reserves m xs)
    at true e = omega arith
    at false e = omega arith
