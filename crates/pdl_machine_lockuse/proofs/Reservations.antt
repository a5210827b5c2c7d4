-- How often a phase has a variable: a location of a memory is reserved for writing at most once on a path.
use Rattle.std.proofs.Common.{◌≡◌, refl, sym, ap, ap₂, ◌∙◌, subst, ℕ, suc, ◌+◌, ◌≤◌, Bool, true, false, ◌&&◌, ◌||◌, not, List, [], ◌∷◌, ◌++◌, length, Some, ◌==◌, cond, if◌then◌else◌, arith, slice_index}
use Rattle.std.proofs.lemmas.Bool.{eqb-true, not-true}
use Rattle.pdl_semantics.specs.Flat.{Op, Write, ReserveWrite, Release, Verify, Stmt, all_hold}
use Rattle.pdl_semantics.specs.Stages.{onpath, is_write_reserve}
use Rattle.pdl_semantics.specs.Machine.{Reserved, Deeds, deeds_after, deeds_after_all, reserves_of, same_args, checked_args}
use Rattle.pdl_theory_turns.specs.Alone.{is_among, is_oldest, drop_var, but_last}
use Rattle.pdl_theory_turns.proofs.Writes.{and_left, and_right}
use Rattle.pdl_theory_turns.specs.Scans.{Phase, Fresh, after_write, after_reserve, after_release, may_write, is_new, next_phase, phase_all, write_reserves}
use Rattle.pdl_theory_turns.proofs.Apart.{total, oldest_length, drop_length}
use Rattle.pdl_machine_facts.proofs.StatementUses.{IsAlong}
use Rattle.pdl_theory_simulation.proofs.FlowFacts.{use_ok, uses_ok}

-- a truth value as a number
abbrev pub one_if : Bool → ℕ
one_if b = if b then 1 else 0

-- how often a variable stands in a list
abbrev pub times : ℕ → List ℕ → ℕ
times x [] = 0
times x (y ∷ ys) = one_if (y == x) + times x ys

-- how often a phase has a variable
abbrev pub uses : Phase → ℕ → ℕ
uses ph x = times x ph.unwritten + (times x ph.full + times x ph.gone)

-- a phase has each variable at most once
abbrev pub Single : Phase → Type 0
Single ph = (x : ℕ) → uses ph x ≤ 1

plus : (n : ℕ) → n ≡ n + 0
plus n = omega arith

-- LISTS

times_none : (x : ℕ) (xs : List ℕ) → is_among x xs ≡ false → times x xs ≡ 0
times_none x [] h = refl
times_none x (y ∷ ys) h = at (y == x) h (times_none x ys)
  where
    at : (b : Bool) → (b || is_among x ys) ≡ false → (is_among x ys ≡ false → times x ys ≡ 0) → one_if b + times x ys ≡ 0
    at true k f = absurd (cc k)
    at false k f = ap (λ n. 0 + n) (f k)

swap : (a b c d : ℕ) → a + c ≡ d → a + (b + c) ≡ b + d
swap a b c d h = omega (arith, h)

times_last : (x a : ℕ) (xs : List ℕ) → is_oldest a xs ≡ true → one_if (a == x) + times x (but_last xs) ≡ times x xs
times_last x a [] h = absurd (cc h)
times_last x a (y ∷ []) h = ap (λ z. one_if (z == x) + 0) (sym (eqb-true y a h))
times_last x a (y ∷ z ∷ zs) h =
    swap (one_if (a == x)) (one_if (y == x)) (times x (but_last (z ∷ zs))) (times x (z ∷ zs)) (times_last x a (z ∷ zs) (second (y == a) h))
  where
    second : (b : Bool) → (not b && is_oldest a (z ∷ zs)) ≡ true → is_oldest a (z ∷ zs) ≡ true
    second true k = absurd (cc k)
    second false k = k

times_drop : (x a : ℕ) (xs : List ℕ) → is_among a xs ≡ true → one_if (a == x) + times x (drop_var a xs) ≡ times x xs
times_drop x a [] h = absurd (cc h)
times_drop x a (y ∷ ys) h = at (y == a) refl h (times_drop x a ys)
  where
    at : (b : Bool) → (y == a) ≡ b → (b || is_among a ys) ≡ true
        → (is_among a ys ≡ true → one_if (a == x) + times x (drop_var a ys) ≡ times x ys)
        → one_if (a == x) + times x (cond b ys (y ∷ drop_var a ys)) ≡ one_if (y == x) + times x ys
    at true e k f = ap (λ z. one_if (z == x) + times x ys) (sym (eqb-true y a e))
    at false e k f = swap (one_if (a == x)) (one_if (y == x)) (times x (drop_var a ys)) (times x ys) (f k)

-- PHASES

-- a reservation adds its variable
pub uses_reserve : (ph : Phase) (a x : ℕ) → uses (after_reserve ph a) x ≡ one_if (a == x) + uses ph x
uses_reserve ph a x = front (one_if (a == x)) (times x ph.unwritten) (times x ph.full + times x ph.gone)
  where
    front : (i j k : ℕ) → (i + j) + k ≡ i + (j + k)
    front i j k = omega arith

-- a variable that isn't reserved yet is in no list
pub uses_new : (ph : Phase) (a : ℕ) → is_new ph a ≡ true → uses ph a ≡ 0
uses_new ph a h =
    let r = and_right (not (is_among a ph.unwritten)) _ h in
    none (times_none a ph.unwritten (not-true _ (and_left (not (is_among a ph.unwritten)) _ h)))
    (times_none a ph.full (not-true _ (and_left (not (is_among a ph.full)) _ r)))
    (times_none a ph.gone (not-true _ (and_right (not (is_among a ph.full)) _ r)))
  where
    none : times a ph.unwritten ≡ 0 → times a ph.full ≡ 0 → times a ph.gone ≡ 0 → uses ph a ≡ 0
    none i j k = ap₂ (λ m n. m + n) i (ap₂ (λ m n. m + n) j k)

-- a write in its turn leaves each variable where it is or moves it
pub uses_write : (ph : Phase) (a x : ℕ) → may_write ph a ≡ true → uses (after_write ph a) x ≡ uses ph x
uses_write ph a x h =
    move (one_if (a == x)) (times x (but_last ph.unwritten)) (times x ph.unwritten) (times x ph.full) (times x ph.gone) (times_last x a ph.unwritten h)
  where
    move : (i j k f g : ℕ) → i + j ≡ k → j + ((i + f) + g) ≡ k + (f + g)
    move i j k f g e = omega (arith, e)

-- so does a release
pub uses_release : (ph : Phase) (a x : ℕ) → uses (after_release ph a) x ≡ uses ph x
uses_release ph a x = at (is_among a ph.full) refl
  where
    move : (u i j k g : ℕ) → i + j ≡ k → u + (j + (i + g)) ≡ u + (k + g)
    move u i j k g e = omega (arith, e)

    at : (b : Bool) → is_among a ph.full ≡ b
        → uses (if b then record { unwritten = ph.unwritten; full = drop_var a ph.full; gone = a ∷ ph.gone } else ph) x ≡ uses ph x
    at true e =
        move (times x ph.unwritten) (one_if (a == x)) (times x (drop_var a ph.full)) (times x ph.full) (times x ph.gone) (times_drop x a ph.full e)
    at false e = refl

-- after a statement in order each variable is there at most once
pub single_op : (m : ℕ) (ph : Phase) (op : Op) → use_ok m ph op ≡ true → Single ph → Single (next_phase m ph op)
single_op m ph (Write j a e) h s x = at (j == m) h
  where
    at : (b : Bool) → (not b || may_write ph a) ≡ true → uses (cond b (after_write ph a) ph) x ≤ 1
    at true k = subst (λ n. n ≤ 1) (sym (uses_write ph a x k)) (s x)
    at false k = s x
single_op m ph (ReserveWrite j a) h s x = at (j == m) h
  where
    new : is_new ph a ≡ true → (b : Bool) → (a == x) ≡ b → one_if b + uses ph x ≤ 1
    new k true e = let z : uses ph x ≡ 0 = ap (uses ph) (sym (eqb-true a x e)) ∙ uses_new ph a k in subst (λ n. 1 + n ≤ 1) (sym z) (omega arith)
    new k false e = low (uses ph x) (s x)
      where
        low : (n : ℕ) → n ≤ 1 → 0 + n ≤ 1
        low n i = omega (arith, i)

    at : (b : Bool) → (not b || is_new ph a) ≡ true → uses (cond b (after_reserve ph a) ph) x ≤ 1
    at true k = subst (λ n. n ≤ 1) (sym (uses_reserve ph a x)) (new k (a == x) refl)
    at false k = s x
single_op m ph (Release j a) h s x = at (j == m)
  where
    at : (b : Bool) → uses (cond b (after_release ph a) ph) x ≤ 1
    at true = subst (λ n. n ≤ 1) (sym (uses_release ph a x)) (s x)
    at false = s x
single_op m ph _ h s x = s x

-- before the first reservation no variable is there
pub single_fresh : Single Fresh
single_fresh x = omega arith

-- after statements in order each variable is there at most once
pub single_all : (m : ℕ) (ph : Phase) (xs : List Stmt) → uses_ok m ph xs ≡ true → Single ph → Single (phase_all m ph xs)
single_all m ph [] h s = s
single_all m ph (x ∷ xs) h s = single_all m (next_phase m ph x.op) xs (and_right _ _ h) (single_op m ph x.op (and_left _ _ h) s)

-- HOW MANY

total_op : (m : ℕ) (ph : Phase) (op : Op) → use_ok m ph op ≡ true → total (next_phase m ph op) ≡ total ph + one_if (is_write_reserve m op)
total_op m ph (Write n a e) h = at (n == m) h
  where
    move : (i u f g : ℕ) → i + 1 ≡ u → i + (suc f + g) ≡ (u + (f + g)) + 0
    move i u f g e = omega (arith, e)

    at : (b : Bool) → (not b || may_write ph a) ≡ true → total (cond b (after_write ph a) ph) ≡ total ph + 0
    at true k = move (length (but_last ph.unwritten)) (length ph.unwritten) (length ph.full) (length ph.gone) (oldest_length a ph.unwritten k)
    at false k = plus (total ph)
total_op m ph (ReserveWrite n a) h = at (n == m)
  where
    more : (u f : ℕ) → suc u + f ≡ (u + f) + 1
    more u f = omega arith

    at : (b : Bool) → total (cond b (after_reserve ph a) ph) ≡ total ph + one_if b
    at true = more (length ph.unwritten) (length ph.full + length ph.gone)
    at false = plus (total ph)
total_op m ph (Release n a) h = at (n == m) (is_among a ph.full) refl
  where
    move : (u i f g : ℕ) → i + 1 ≡ f → u + (i + suc g) ≡ (u + (f + g)) + 0
    move u i f g e = omega (arith, e)

    at : (b c : Bool) → is_among a ph.full ≡ c
        → total (cond b (cond c (record { unwritten = ph.unwritten; full = drop_var a ph.full; gone = a ∷ ph.gone }) ph) ph) ≡ total ph + 0
    at true true e = move (length ph.unwritten) (length (drop_var a ph.full)) (length ph.full) (length ph.gone) (drop_length a ph.full e)
    at true false e = plus (total ph)
    at false c e = plus (total ph)
total_op m ph _ h = plus (total ph)

-- after statements in order as many locations are reserved as there are reservations
pub total_all : (m : ℕ) (ph : Phase) (xs : List Stmt) → uses_ok m ph xs ≡ true → total (phase_all m ph xs) ≡ total ph + write_reserves m xs
total_all m ph [] h = plus (total ph)
total_all m ph (x ∷ xs) h =
    total_all m (next_phase m ph x.op) xs (and_right (use_ok m ph x.op) _ h) ∙ at (is_write_reserve m x.op) (total_op m ph x.op (and_left _ _ h))
  where
    at : (b : Bool) → total (next_phase m ph x.op) ≡ total ph + one_if b
        → total (next_phase m ph x.op) + write_reserves m xs ≡ total ph + cond b (suc (write_reserves m xs)) (write_reserves m xs)
    at true e = omega (arith, e)
    at false e = omega (arith, e)

-- no more locations are released than reserved
pub gone_few : (ph : Phase) → length ph.gone ≤ total ph
gone_few ph = low (length ph.unwritten) (length ph.full) (length ph.gone)
  where
    low : (u f g : ℕ) → g ≤ u + (f + g)
    low u f g = omega arith

-- the reservations of joined statements are those of both
pub reserves_append : (m : ℕ) (xs ys : List Stmt) → write_reserves m (xs ++ ys) ≡ write_reserves m xs + write_reserves m ys
reserves_append m [] ys = zero (write_reserves m ys)
  where
    zero : (n : ℕ) → n ≡ 0 + n
    zero n = omega arith
reserves_append m (x ∷ xs) ys = at (is_write_reserve m x.op) (reserves_append m xs ys)
  where
    at : (b : Bool) → write_reserves m (xs ++ ys) ≡ write_reserves m xs + write_reserves m ys
        → cond b (suc (write_reserves m (xs ++ ys))) (write_reserves m (xs ++ ys))
        ≡ cond b (suc (write_reserves m xs)) (write_reserves m xs) + write_reserves m ys
    at true e = omega (arith, e)
    at false e = e

-- what a stage reserves are the reservations of its statements on the path
pub reserved_all : (m : ℕ) (path : List ℕ) (read : ℕ → ℕ → ℕ) (xs : List Stmt) (d : Deeds) → IsAlong path read xs d
    → reserves_of m (deeds_after_all read xs d).reserves ≡ reserves_of m d.reserves + write_reserves m (onpath path xs)
reserved_all m path read [] d i = plus (reserves_of m d.reserves)
reserved_all m path read (x ∷ xs) d i =
    at (all_hold x.guards d.env) (all_hold x.guards path) i.0 i.1 (λ e f. reserved_all m path read xs e f)
  where
    one_op : (op : Op) → reserves_of m (deeds_after read op d).reserves ≡ reserves_of m d.reserves + one_if (is_write_reserve m op)
    one_op (ReserveWrite j a) = last d.reserves
      where
        last : (rs : List Reserved)
            → reserves_of m (rs ++ record { mem = j; var = a; address = slice_index d.env a } ∷ []) ≡ reserves_of m rs + one_if (j == m)
        last [] = by (j == m)
          where
            by : (b : Bool) → cond b 1 0 ≡ 0 + one_if b
            by true = refl
            by false = refl
        last (r ∷ rs) = by (r.mem == m) (last rs)
          where
            by : (b : Bool)
                → reserves_of m (rs ++ record { mem = j; var = a; address = slice_index d.env a } ∷ []) ≡ reserves_of m rs + one_if (j == m)
                → cond b (suc (reserves_of m (rs ++ record { mem = j; var = a; address = slice_index d.env a } ∷ [])))
                (reserves_of m (rs ++ record { mem = j; var = a; address = slice_index d.env a } ∷ []))
                ≡ cond b (suc (reserves_of m rs)) (reserves_of m rs) + one_if (j == m)
            by true e = omega (arith, e)
            by false e = e
    one_op (Verify last args) = by (same_args (checked_args last args d) d.guess)
      where
        by : (b : Bool)
            → reserves_of m (cond b d (record d { child = Some (checked_args last args d); guess = checked_args last args d; fails = true })).reserves
            ≡ reserves_of m d.reserves + 0
        by true = plus (reserves_of m d.reserves)
        by false = plus (reserves_of m d.reserves)
    one_op _ = plus (reserves_of m d.reserves)

    at : (b c : Bool) → b ≡ c → IsAlong path read xs (cond b (deeds_after read x.op d) d)
        → ((e : Deeds) → IsAlong path read xs e
        → reserves_of m (deeds_after_all read xs e).reserves ≡ reserves_of m e.reserves + write_reserves m (onpath path xs))
        → reserves_of m (deeds_after_all read xs (cond b (deeds_after read x.op d) d)).reserves
        ≡ reserves_of m d.reserves + write_reserves m (cond c (record x { guards = [] } ∷ onpath path xs) (onpath path xs))
    at true false e f go = absurd (cc e)
    at false true e f go = absurd (cc e)
    at false false e f go = go d f
    at true true e f go = go (deeds_after read x.op d) f ∙ by (is_write_reserve m x.op) (one_op x.op)
      where
        by : (b : Bool) → reserves_of m (deeds_after read x.op d).reserves ≡ reserves_of m d.reserves + one_if b
            → reserves_of m (deeds_after read x.op d).reserves + write_reserves m (onpath path xs)
            ≡ reserves_of m d.reserves + cond b (suc (write_reserves m (onpath path xs))) (write_reserves m (onpath path xs))
        by true k = omega (arith, k)
        by false k = omega (arith, k)
