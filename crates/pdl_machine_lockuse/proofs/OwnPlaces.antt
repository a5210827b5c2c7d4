-- The places of a thread's pending writes of one memory: who writes in turn, which place comes next, and how often a location has one.
use Rattle.std.proofs.Common.{◌≡◌, refl, sym, ap, ap₂, ◌∙◌, ℕ, suc, ◌+◌, ◌≤◌, Bool, true, false, ◌&&◌, ◌||◌, not, List, [], ◌∷◌, ◌++◌, length, length-append, Some, None, is_none, ◌==◌, cond, if◌then◌else◌, arith, eq-eqb}
use Rattle.std.specs.Prelude.{⊤}
use Rattle.std.proofs.lemmas.Bool.{false≢true, eqb-true}
use Rattle.pdl_semantics.specs.Stages.{list_any}
use Rattle.pdl_semantics.specs.Machine.{Pending, Written}
use Rattle.pdl_semantics.specs.Cycle.{with_value_of, with_writes_of}
use Rattle.pdl_theory_turns.specs.Alone.{is_oldest}
use Rattle.pdl_theory_turns.specs.Scans.{Phase}
use Rattle.pdl_theory_turns.proofs.Writes.{and_right}
use Rattle.pdl_theory_turns.proofs.Entries.{entry, Open, Full, waiting, known, open_vars, full_vars}
use Rattle.pdl_theory_turns.proofs.Lists.{own, pend}
use Rattle.pdl_theory_turns.proofs.Steps.{AreGiven, AllUsed, is_used}
use Rattle.pdl_lockapi.specs.Forget.{has_place, place_of, IsOnce}
use Rattle.pdl_lockapi.proofs.Places.{place_front}
use Rattle.pdl_theory_states.proofs.FetchCounts.{any_front}
use Rattle.pdl_machine_lockuse.specs.Use.{written_in, is_open, AreOwn}
use Rattle.pdl_machine_lockuse.proofs.Reservations.{one_if}
use Rattle.pdl_machine_lockuse.proofs.Paths.{rest}

-- one more write is counted where it is to the memory
pub written_more : (m : ℕ) (ws : List Written) (w : Written) → written_in m (ws ++ w ∷ []) ≡ written_in m ws + one_if (w.mem == m)
written_more m [] w = at (w.mem == m)
  where
    at : (b : Bool) → cond b 1 0 ≡ 0 + one_if b
    at true = refl
    at false = refl
written_more m (x ∷ ws) w = at (x.mem == m) (written_more m ws w)
  where
    at : (b : Bool) → written_in m (ws ++ w ∷ []) ≡ written_in m ws + one_if (w.mem == m)
        → cond b (suc (written_in m (ws ++ w ∷ []))) (written_in m (ws ++ w ∷ [])) ≡ cond b (suc (written_in m ws)) (written_in m ws) + one_if (w.mem == m)
    at true h = omega (arith, h)
    at false h = h

-- the writes that a thread makes, each into the pending write after that of the one before, of which the first has k before it
abbrev pub InTurn : ℕ → ℕ → List Pending → ℕ → List Written → Type 0
InTurn m n es k [] = ⊤
InTurn m n es k (w ∷ ws) =
    ((w.mem == m) ≡ true → (is_open n w.var es ≡ true) × (has_place n w.var es ≡ true) × (place_of n w.var es ≡ k))
    × InTurn m n es (if w.mem == m then suc k else k) ws

-- writes stay in turn with one more, which goes into the place after theirs
pub turn_more : (m n : ℕ) (es : List Pending) (k : ℕ) (ws : List Written) (w : Written) → InTurn m n es k ws
    → ((w.mem == m) ≡ true → (is_open n w.var es ≡ true) × (has_place n w.var es ≡ true) × (place_of n w.var es ≡ k + written_in m ws))
    → InTurn m n es k (ws ++ w ∷ [])
turn_more m n es k [] w t h = ((λ e. let i = h e in (i.0, i.1, let j = i.2 in omega (arith, j))), tt)
turn_more m n es k (x ∷ ws) w t h = (t.0, turn_more m n es (cond (x.mem == m) (suc k) k) ws w t.1 (λ e. let i = h e in (i.0, i.1, i.2 ∙ at (x.mem == m))))
  where
    at : (b : Bool) → k + cond b (suc (written_in m ws)) (written_in m ws) ≡ cond b (suc k) k + written_in m ws
    at true = omega arith
    at false = refl

-- writes stay in turn as the list grows
pub turn_grow : (m n : ℕ) (es ys : List Pending) (k : ℕ) (ws : List Written) → InTurn m n es k ws → InTurn m n (es ++ ys) k ws
turn_grow m n es ys k [] t = tt
turn_grow m n es ys k (w ∷ ws) t = (
  (λ e. let i = t.0 e in let f = place_front n w.var es ys i.1 in (any_front _ es ys i.0, f.0, f.1 ∙ i.2)),
  turn_grow m n es ys (cond (w.mem == m) (suc k) k) ws t.1,
)

-- a write keeps the places
put_place : (n y t a v : ℕ) (es : List Pending)
    → (has_place n y (with_value_of t a v es) ≡ has_place n y es) × (place_of n y (with_value_of t a v es) ≡ place_of n y es)
put_place n y t a v [] = (refl, refl)
put_place n y t a v (e ∷ es) = at ((e.thread == t) && (e.var == a)) (put_place n y t a v es)
  where
    at : (b : Bool)
        → (has_place n y (with_value_of t a v es) ≡ has_place n y es) × (place_of n y (with_value_of t a v es) ≡ place_of n y es)
        → (has_place n y (cond b (record e { value = Some v }) e ∷ with_value_of t a v es) ≡ has_place n y (e ∷ es))
        × (place_of n y (cond b (record e { value = Some v }) e ∷ with_value_of t a v es) ≡ place_of n y (e ∷ es))
    at true h = (
      ap (λ z. cond ((e.thread == n) && (e.var == y)) true z) h.0,
      ap (λ z. cond ((e.thread == n) && (e.var == y)) 0 (suc z)) h.1,
    )
    at false h = (
      ap (λ z. cond ((e.thread == n) && (e.var == y)) true z) h.0,
      ap (λ z. cond ((e.thread == n) && (e.var == y)) 0 (suc z)) h.1,
    )

-- all the writes of a stage keep the places
pub puts_place : (m n y t : ℕ) (ws : List Written) (es : List Pending)
    → (has_place n y (with_writes_of m t ws es) ≡ has_place n y es) × (place_of n y (with_writes_of m t ws es) ≡ place_of n y es)
puts_place m n y t [] es = (refl, refl)
puts_place m n y t (w ∷ ws) es = at (w.mem == m) (puts_place m n y t ws)
  where
    at : (b : Bool) → ((fs : List Pending)
        → (has_place n y (with_writes_of m t ws fs) ≡ has_place n y fs) × (place_of n y (with_writes_of m t ws fs) ≡ place_of n y fs))
        → (has_place n y (with_writes_of m t ws (cond b (with_value_of t w.var w.value es) es)) ≡ has_place n y es)
        × (place_of n y (with_writes_of m t ws (cond b (with_value_of t w.var w.value es) es)) ≡ place_of n y es)
    at true go =
        let i = go (with_value_of t w.var w.value es) in let j = put_place n y t w.var w.value es in (i.0 ∙ j.0, i.1 ∙ j.1)
    at false go = go es

-- what is without value after a write was so before it
open_back : (n y t a v : ℕ) (es : List Pending) → is_open n y (with_value_of t a v es) ≡ true → is_open n y es ≡ true
open_back n y t a v [] h = h
open_back n y t a v (e ∷ es) h = at ((e.thread == t) && (e.var == a)) h (open_back n y t a v es)
  where
    or_second : (b c d : Bool) → (c ≡ true → d ≡ true) → (b || c) ≡ true → (b || d) ≡ true
    or_second true c d f i = refl
    or_second false c d f i = f i

    none : (b : Bool) → (b && false) ≡ false
    none true = refl
    none false = refl

    skip : (b d : Bool) → d ≡ true → (b || d) ≡ true
    skip true d i = refl
    skip false d i = i

    at : (b : Bool) → is_open n y (cond b (record e { value = Some v }) e ∷ with_value_of t a v es) ≡ true
        → (is_open n y (with_value_of t a v es) ≡ true → is_open n y es ≡ true) → is_open n y (e ∷ es) ≡ true
    at true i f =
        skip (((e.thread == n) && (e.var == y)) && is_none e.value) (is_open n y es)
        (f (sym (ap (λ b. b || is_open n y (with_value_of t a v es)) (none ((e.thread == n) && (e.var == y)))) ∙ i))
    at false i f = or_second (((e.thread == n) && (e.var == y)) && is_none e.value) (is_open n y (with_value_of t a v es)) (is_open n y es) f i

-- and what is without value after them was so before them
pub opens_back : (m n y t : ℕ) (ws : List Written) (es : List Pending) → is_open n y (with_writes_of m t ws es) ≡ true → is_open n y es ≡ true
opens_back m n y t [] es h = h
opens_back m n y t (w ∷ ws) es h = at (w.mem == m) h (opens_back m n y t ws)
  where
    at : (b : Bool) → is_open n y (with_writes_of m t ws (cond b (with_value_of t w.var w.value es) es)) ≡ true
        → ((fs : List Pending) → is_open n y (with_writes_of m t ws fs) ≡ true → is_open n y fs ≡ true) → is_open n y es ≡ true
    at true i go = open_back n y t w.var w.value es (go (with_value_of t w.var w.value es) i)
    at false i go = go es i

-- the oldest location without a value is the first of those that are waited for
pub oldest_first : (m n a : ℕ) (os : List Open) → is_oldest a (open_vars os) ≡ true
    → (is_open n a (pend m n (waiting m os)) ≡ true) × (has_place n a (pend m n (waiting m os)) ≡ true)
    × (place_of n a (pend m n (waiting m os)) ≡ 0)
oldest_first m n a [] h = absurd (cc h)
oldest_first m n a (o ∷ []) h = at (m == m) (eq-eqb m m refl) ((n == n) && (o.var == a)) (ap₂ (λ b c. b && c) (eq-eqb n n refl) h)
  where
    at : (b : Bool) → b ≡ true → (c : Bool) → c ≡ true
        → (list_any (λ (e : Pending). ((e.thread == n) && (e.var == a)) && is_none e.value) (cond b (own n (entry m o.var o.address None) ∷ []) []) ≡ true)
        × (has_place n a (cond b (own n (entry m o.var o.address None) ∷ []) []) ≡ true)
        × (place_of n a (cond b (own n (entry m o.var o.address None) ∷ []) []) ≡ 0)
    at false i c j = absurd (cc i)
    at true i c j =
        let k : ((n == n) && (o.var == a)) ≡ true = ap₂ (λ b c. b && c) (eq-eqb n n refl) h in
        (ap (λ b. (b && true) || false) k, ap (λ b. cond b true false) k, ap (λ b. cond b 0 1) k)
oldest_first m n a (o ∷ q ∷ os) h =
    let i = oldest_first m n a (q ∷ os) (second (o.var == a) h) in
    let f = place_front n a (pend m n (waiting m (q ∷ os))) (cond (m == m) (own n (entry m o.var o.address None) ∷ []) []) i.1 in
    (any_front _ (pend m n (waiting m (q ∷ os))) (cond (m == m) (own n (entry m o.var o.address None) ∷ []) []) i.0, f.0, f.1 ∙ i.2)
  where
    second : (b : Bool) → (not b && is_oldest a (open_vars (q ∷ os))) ≡ true → is_oldest a (open_vars (q ∷ os)) ≡ true
    second true k = absurd (cc k)
    second false k = k

-- a thread has as many pending writes as its locations that are waited for
pub pend_length : (m n : ℕ) (os : List Open) → length (pend m n (waiting m os)) ≡ length (open_vars os)
pend_length m n [] = refl
pend_length m n (o ∷ os) =
    ap (λ b. length (pend m n (waiting m os) ++ cond b (own n (entry m o.var o.address None) ∷ []) [])) (eq-eqb m m refl)
    ∙ length-append (pend m n (waiting m os)) (own n (entry m o.var o.address None) ∷ []) ∙ one (pend_length m n os)
  where
    one : length (pend m n (waiting m os)) ≡ length (open_vars os) → length (pend m n (waiting m os)) + 1 ≡ suc (length (open_vars os))
    one h = omega (arith, h)

-- and as many as its locations that have their values
pub known_length : (m n : ℕ) (fs : List Full) → length (pend m n (known m fs)) ≡ length (full_vars fs)
known_length m n [] = refl
known_length m n (f ∷ fs) =
    ap (λ b. length (pend m n (known m fs) ++ cond b (own n (entry m f.var f.address (Some f.value)) ∷ []) [])) (eq-eqb m m refl)
    ∙ length-append (pend m n (known m fs)) (own n (entry m f.var f.address (Some f.value)) ∷ []) ∙ one (known_length m n fs)
  where
    one : length (pend m n (known m fs)) ≡ length (full_vars fs) → length (pend m n (known m fs)) + 1 ≡ suc (length (full_vars fs))
    one h = omega (arith, h)

-- a location that no entry uses has no place
pub unused_place : (ph : Phase) (n a : ℕ) (es : List Pending) → is_used ph a ≡ false → AllUsed ph es → has_place n a es ≡ false
unused_place ph n a [] h u = refl
unused_place ph n a (e ∷ es) h u = at ((e.thread == n) && (e.var == a)) refl (unused_place ph n a es h u.1)
  where
    at : (b : Bool) → ((e.thread == n) && (e.var == a)) ≡ b → has_place n a es ≡ false → cond b true (has_place n a es) ≡ false
    at true i k =
        absurd (false≢true (sym h ∙ ap (is_used ph) (sym (eqb-true e.var a (and_right (e.thread == n) _ i))) ∙ u.0))
    at false i k = k

-- how often a thread has a pending write of a variable
abbrev pub names : ℕ → ℕ → List Pending → ℕ
names n y [] = 0
names n y (e ∷ es) = one_if ((e.thread == n) && (e.var == y)) + names n y es

-- of two lists joined
pub names_append : (n y : ℕ) (xs ys : List Pending) → names n y (xs ++ ys) ≡ names n y xs + names n y ys
names_append n y [] ys = zero (names n y ys)
  where
    zero : (k : ℕ) → k ≡ 0 + k
    zero k = omega arith
names_append n y (x ∷ xs) ys = more (one_if ((x.thread == n) && (x.var == y))) (names n y (xs ++ ys)) (names n y xs) (names n y ys) (names_append n y xs ys)
  where
    more : (i j k l : ℕ) → j ≡ k + l → i + j ≡ (i + k) + l
    more i j k l e = omega (arith, e)

-- who has none has no place
names_none : (n y : ℕ) (es : List Pending) → names n y es ≡ 0 → has_place n y es ≡ false
names_none n y [] h = refl
names_none n y (e ∷ es) h = at ((e.thread == n) && (e.var == y)) h (names_none n y es)
  where
    at : (b : Bool) → one_if b + names n y es ≡ 0 → (names n y es ≡ 0 → has_place n y es ≡ false) → cond b true (has_place n y es) ≡ false
    at true k f = absurd (omega (arith, k))
    at false k f = f (omega (arith, k))

-- where there is at most one, there is at most one in the words of the lock
pub once_names : (n y : ℕ) (es : List Pending) → names n y es ≤ 1 → IsOnce n y es
once_names n y [] h = tt
once_names n y (e ∷ es) h = at ((e.thread == n) && (e.var == y)) h (once_names n y es)
  where
    at : (b : Bool) → one_if b + names n y es ≤ 1 → (names n y es ≤ 1 → IsOnce n y es) → (b ≡ true → has_place n y es ≡ false) × IsOnce n y es
    at true k go = ((λ i. names_none n y es (omega (arith, k))), go (omega (arith, k)))
    at false k go = ((λ i. absurd (false≢true i)), go (omega (arith, k)))

-- pending writes with their values, of which there are k, are the first k of a list that begins with them
pub given_own : (n : ℕ) (out rest : List Pending) → AreGiven n out → AreOwn (length out) n (out ++ rest)
given_own n [] rest g = tt
given_own n (e ∷ es) rest g = (g.0, g.1, g.2, given_own n es rest g.3)
