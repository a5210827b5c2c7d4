-- What of two threads' acts can change places: their writes, what they ask for, and the thread that they make.
use Rattle.std.proofs.Common.{◌≡◌, refl, sym, ap, ap₂, ◌∙◌, ℕ, ◌⊎◌, inl, inr, Bool, true, false, ◌||◌, not, List, [], ◌∷◌, Option, Some, None, ◌==◌, cond, if◌then◌else◌, ◌&&◌}
use Rattle.std.proofs.lemmas.Bool.{eqb-true}
use Rattle.pdl_semantics.specs.Flat.{Op, ReserveWrite, Call, SpecCall, Verify, Stmt, all_hold}
use Rattle.pdl_semantics.specs.Machine.{Ask, Request, Pending, Deeds, deeds_after_all}
use Rattle.pdl_semantics.specs.Cycle.{with_value_of, with_writes_of, asked_of, address_of, or_then}
use Rattle.pdl_semantics.specs.Machine
use Rattle.pdl_theory_turns.specs.Derived.{find_ask}
use Rattle.pdl_theory_turns.specs.Scans.{none_of}
use Rattle.pdl_theory_simulation.proofs.FlowFacts.{trunk_only}
use Rattle.pdl_theory_turns.proofs.Writes.{and_left, and_right}

-- the first two of three truth values change places in a disjunction
pub or_swap : (a b c : Bool) → (a || (b || c)) ≡ (b || (a || c))
or_swap true true c = refl
or_swap true false c = refl
or_swap false true c = refl
or_swap false false c = refl

-- an entry, with this value where it is of this thread and variable
abbrev put_one : ℕ → ℕ → ℕ → Pending → Pending
put_one n y v e = if (e.thread == n) && (e.var == y) then record e { value = Some v } else e

-- writes into the entries of two threads change places
put_swap : (n y v k z w : ℕ) (xs : List Pending)
    → (n ≡ k → ⊥) → with_value_of n y v (with_value_of k z w xs) ≡ with_value_of k z w (with_value_of n y v xs)
put_swap n y v k z w [] h = refl
put_swap n y v k z w (e ∷ es) h =
    ap₂ (λ a l. a ∷ l) (at ((e.thread == n) && (e.var == y)) refl ((e.thread == k) && (e.var == z)) refl) (put_swap n y v k z w es h)
  where
    first : ((e.thread == n) && (e.var == y)) ≡ false → put_one n y v e ≡ e
    first i = ap (λ b. cond b (record e { value = Some v }) e) i

    second : ((e.thread == k) && (e.var == z)) ≡ false → put_one k z w e ≡ e
    second j = ap (λ b. cond b (record e { value = Some w }) e) j

    at : (b : Bool) → ((e.thread == n) && (e.var == y)) ≡ b → (c : Bool) → ((e.thread == k) && (e.var == z)) ≡ c
        → put_one n y v (put_one k z w e) ≡ put_one k z w (put_one n y v e)
    at true i true j = absurd (h (sym (eqb-true e.thread n (and_left _ _ i)) ∙ eqb-true e.thread k (and_left _ _ j)))
    at b i false j = ap (put_one n y v) (second j) ∙ put_after b i
      where
        put_after : (b : Bool) → ((e.thread == n) && (e.var == y)) ≡ b → put_one n y v e ≡ put_one k z w (put_one n y v e)
        put_after true l =
            ap (λ b. cond b (record e { value = Some v }) e) l
            ∙ sym (ap (put_one k z w) (ap (λ b. cond b (record e { value = Some v }) e) l)
            ∙ ap (λ b. cond b (record e { value = Some w }) (record e { value = Some v })) j)
        put_after false l = first l ∙ sym (ap (put_one k z w) (first l) ∙ second j)
    at false i true j =
        ap (put_one n y v) (ap (λ b. cond b (record e { value = Some w }) e) j)
        ∙ ap (λ b. cond b (record e { value = Some v }) (record e { value = Some w })) i
        ∙ sym (ap (put_one k z w) (first i) ∙ ap (λ b. cond b (record e { value = Some w }) e) j)

put_all_put : (m n k z w : ℕ) (ws : List Machine.Written) (xs : List Pending)
    → (n ≡ k → ⊥) → with_writes_of m n ws (with_value_of k z w xs) ≡ with_value_of k z w (with_writes_of m n ws xs)
put_all_put m n k z w [] xs h = refl
put_all_put m n k z w (x ∷ ws) xs h = at (x.mem == m) (λ ys. put_all_put m n k z w ws ys h)
  where
    at : (b : Bool)
        → ((ys : List Pending) → with_writes_of m n ws (with_value_of k z w ys) ≡ with_value_of k z w (with_writes_of m n ws ys))
        → with_writes_of m n ws (cond b (with_value_of n x.var x.value (with_value_of k z w xs)) (with_value_of k z w xs))
        ≡ with_value_of k z w (with_writes_of m n ws (cond b (with_value_of n x.var x.value xs) xs))
    at true f = ap (with_writes_of m n ws) (put_swap n x.var x.value k z w xs h) ∙ f (with_value_of n x.var x.value xs)
    at false f = f xs

-- the writes of two threads into pending writes change places
pub put_all_swap : (m n k : ℕ) (ws vs : List Machine.Written) (xs : List Pending)
    → (n ≡ k → ⊥) → with_writes_of m n ws (with_writes_of m k vs xs) ≡ with_writes_of m k vs (with_writes_of m n ws xs)
put_all_swap m n k ws [] xs h = refl
put_all_swap m n k ws (v ∷ vs) xs h = at (v.mem == m) (λ ys. put_all_swap m n k ws vs ys h)
  where
    at : (b : Bool)
        → ((ys : List Pending) → with_writes_of m n ws (with_writes_of m k vs ys) ≡ with_writes_of m k vs (with_writes_of m n ws ys))
        → with_writes_of m n ws (with_writes_of m k vs (cond b (with_value_of k v.var v.value xs) xs))
        ≡ with_writes_of m k vs (cond b (with_value_of k v.var v.value (with_writes_of m n ws xs)) (with_writes_of m n ws xs))
    at true f = f (with_value_of k v.var v.value xs) ∙ ap (with_writes_of m k vs) (put_all_put m n k v.var v.value ws xs h)
    at false f = f xs

-- a thread that asks nothing of m leaves its request as it was
pub asked_none : (m n : ℕ) (qs : List Ask) (old : Request) → find_ask qs m ≡ None → asked_of m n qs old ≡ old
asked_none m n [] old h = refl
asked_none m n (q ∷ qs) old h = at (q.mem == m) h (asked_none m n qs old)
  where
    clash : Some q.address ≡ None → ⊥
    clash i = cc

    at : (b : Bool) → (if b then Some q.address else find_ask qs m) ≡ None
        → (find_ask qs m ≡ None → asked_of m n qs old ≡ old)
        → (if b then Machine.Owned n q.address else asked_of m n qs old) ≡ old
    at true i f = absurd (clash i)
    at false i f = f i

-- the address that is asked stays where a thread asks a memory nothing
pub address_none : (m : ℕ) (qs : List Ask) (rest : Option ℕ) → find_ask qs m ≡ None → address_of m qs rest ≡ rest
address_none m [] rest h = refl
address_none m (q ∷ qs) rest h = at (q.mem == m) h (address_none m qs rest)
  where
    clash : Some q.address ≡ None → ⊥
    clash i = cc

    at : (b : Bool) → (if b then Some q.address else find_ask qs m) ≡ None
        → (find_ask qs m ≡ None → address_of m qs rest ≡ rest)
        → (if b then Some q.address else address_of m qs rest) ≡ rest
    at true i f = absurd (clash i)
    at false i f = f i

-- two successors change places where one of them is none
pub or_then_swap : (a b c : Option Machine.Thread) → (a ≡ None) ⊎ (b ≡ None) → or_then a (or_then b c) ≡ or_then b (or_then a c)
or_then_swap a b c (inl e) = ap (λ x. or_then x (or_then b c)) e ∙ sym (ap (λ x. or_then b (or_then x c)) e)
or_then_swap a b c (inr e) = ap (λ x. or_then a (or_then x c)) e ∙ sym (ap (λ x. or_then x (or_then a c)) e)

-- a statement that may stand in a branch reserves nothing for writing, makes no thread and fails no verify
plain_op : (read : ℕ → ℕ → ℕ) (op : Op) (d : Deeds)
    → not (trunk_only op) ≡ true
    → ((Machine.deeds_after read op d).reserves ≡ d.reserves) × ((Machine.deeds_after read op d).child ≡ d.child)
    × ((Machine.deeds_after read op d).fails ≡ d.fails)
plain_op read (ReserveWrite m a) d h = absurd (cc h)
plain_op read (Call args) d h = absurd (cc h)
plain_op read (SpecCall args) d h = absurd (cc h)
plain_op read (Verify last args) d h = absurd (cc h)
plain_op read _ d h = (refl, refl, refl)

-- statements that may stand in a branch reserve nothing for writing, make no thread and fail no verify
pub plain_all : (read : ℕ → ℕ → ℕ) (xs : List Stmt) (d : Deeds)
    → none_of trunk_only xs ≡ true
    → ((deeds_after_all read xs d).reserves ≡ d.reserves) × ((deeds_after_all read xs d).child ≡ d.child)
    × ((deeds_after_all read xs d).fails ≡ d.fails)
plain_all read [] d h = (refl, refl, refl)
plain_all read (x ∷ xs) d h =
    let r = plain_all read xs (if all_hold x.guards d.env then Machine.deeds_after read x.op d else d) (and_right _ _ h) in
    let o = plain_op read x.op d (and_left _ _ h) in
    (r.0 ∙ one (all_hold x.guards d.env) o.0, r.1 ∙ two (all_hold x.guards d.env) o.1, r.2 ∙ three (all_hold x.guards d.env) o.2)
  where
    one : (b : Bool) → (Machine.deeds_after read x.op d).reserves ≡ d.reserves → (cond b (Machine.deeds_after read x.op d) d).reserves ≡ d.reserves
    one true e = e
    one false e = refl

    two : (b : Bool) → (Machine.deeds_after read x.op d).child ≡ d.child → (cond b (Machine.deeds_after read x.op d) d).child ≡ d.child
    two true e = e
    two false e = refl

    three : (b : Bool) → (Machine.deeds_after read x.op d).fails ≡ d.fails → (cond b (Machine.deeds_after read x.op d) d).fails ≡ d.fails
    three true e = e
    three false e = refl
