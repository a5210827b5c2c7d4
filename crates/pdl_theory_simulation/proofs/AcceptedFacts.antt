-- The facts that the simulation takes follow stages_from those of an accepted pipe.
use Rattle.std.proofs.Common.{◌≡◌, refl, sym, ap, ap₂, ◌∙◌, subst, ℕ, suc, ◌≤◌, ◌<◌, ◌⊎◌, inl, inr, Bool, true, false, ◌&&◌, ◌||◌, not, List, [], ◌∷◌, ◌++◌, length, Some, None, ◌==◌, nat_lt, nat_le, cond, arith, ltb-true, ltb-false, leb-true, leb-false, le_refl, eq-eqb}
use Rattle.std.proofs.lemmas.Bool.{eqb-true, eqb-false, ne_eqb, false≢true}
use Rattle.pdl_semantics.specs.Flat.{list_all, Pipe, Branch, Op, DelayedRead, Stmt, all_hold}
use Rattle.pdl_semantics.specs.Stages.{onpath, in_stage, stage_at, goes_to, is_inside, commit_stage, verify_stage, is_check, is_verify}
use Rattle.pdl_semantics.specs.Sound.{stages_before, stages_from, is_fetch, is_call, is_delayed_read, is_spec_call}
use Rattle.pdl_theory_turns.specs.Alone.{before, answered_op}
use Rattle.pdl_theory_turns.specs.Scans.{Phase, Fresh, next_phase, phase_all, is_over, none_of, binds_var, is_dead}
use Rattle.pdl_theory_turns.specs.GuessScans.{Unmade, makings_ok, checks_apart, is_update, once}
use Rattle.pdl_theory_turns.specs.Graphs.{Home, Within, Below, Way, stage_or, next_of}
use Rattle.pdl_theory_turns.proofs.Nested.{arrives}
use Rattle.pdl_theory_turns.specs.Facts.{is_fetch_of, none_like, alone_op, fetch_apart, Found, FetchIf, AllFetches, looked_all, at_once, visits_stage, defined_by, late_for, Sound}
use Rattle.pdl_theory_simulation.proofs.FlowFacts.{Ways, Flows, FlowRules, Leads, AllOf, DefinedBy, binds_guard, use_ok, uses_ok, call_ok, calls_ok, at_most_one}
use Rattle.pdl_theory_turns.proofs.Writes.{and_left, and_right}
use Rattle.pdl_theory_turns.proofs.Paths.{dead_none, stage_path}
use Rattle.pdl_theory_turns.proofs.Looks.{path_looked}
use Rattle.pdl_theory_turns.proofs.StrayPaths.{fixed_looked}
use Rattle.pdl_theory_turns.proofs.CourseOf.{all_at_looked}
use Rattle.pdl_theory_simulation.proofs.FlowScans.{uses_of, calls_of, apart_of, once_looked, update_or_verify}
use Rattle.pdl_theory_simulation.proofs.RuleFacts.{all_map, before_path, from_path, flows_of_rules}
use Rattle.pdl_word.proofs.Bools.{by_bool, by_or}
use Rattle.pdl_word.proofs.Lists.{tail_same}

-- LISTS

all_of : (test : Stmt → Bool) (xs : List Stmt) → list_all test xs ≡ true → AllOf (λ z. test z ≡ true) xs
all_of test [] h = tt
all_of test (x ∷ xs) h = (and_left (test x) _ h, all_of test xs (and_right (test x) _ h))

cons_head : {x y : Stmt} {xs ys : List Stmt} → x ∷ xs ≡ y ∷ ys → x.stage ≡ y.stage
cons_head {x} {y} {xs} {ys} e = ap first e
  where
    first : List Stmt → ℕ
    first [] = x.stage
    first (z ∷ zs) = z.stage

-- THE ORDER OF STAGES

-- the first of the statements before stage s stands before it
early_first : (s : ℕ) (xs : List Stmt) (z : Stmt) (zs : List Stmt) → before s xs ≡ z ∷ zs → z.stage < s
early_first s [] z zs h = absurd (cc h)
early_first s (x ∷ xs) z zs h = at (nat_lt x.stage s) refl h (early_first s xs z zs)
  where
    at : (b : Bool) → nat_lt x.stage s ≡ b
        → cond b (record x { op = answered_op x.op } ∷ before s xs) (before s xs) ≡ z ∷ zs
        → (before s xs ≡ z ∷ zs → z.stage < s) → z.stage < s
    at true e i f = subst (λ n. n < s) (cons_head i) (ltb-true _ _ e)
    at false e i f = f i

-- reads at once stand where the delayed reads stand
order_looked : (s : ℕ) (xs : List Stmt)
    → looked_all xs ≡ before s (looked_all xs) ++ stages_from s (looked_all xs)
    → xs ≡ stages_before s xs ++ stages_from s xs
order_looked s [] h = refl
order_looked s (x ∷ xs) h = at (nat_lt x.stage s) refl (nat_le s x.stage) refl h (order_looked s xs)
  where
    two : (l : List Stmt) → before s (looked_all xs) ≡ l
        → looked_all (x ∷ xs) ≡ l ++ (record x { op = answered_op x.op } ∷ stages_from s (looked_all xs)) → s ≤ x.stage
        → (looked_all xs ≡ before s (looked_all xs) ++ stages_from s (looked_all xs) → xs ≡ stages_before s xs ++ stages_from s xs)
        → x ∷ xs ≡ stages_before s xs ++ (x ∷ stages_from s xs)
    two [] e k low f =
        let r = f (tail_same k ∙ ap (λ l. l ++ stages_from s (looked_all xs)) (sym e)) in
        let none : stages_before s xs ≡ [] = no_early xs e in
        ap (λ l. x ∷ l) (r ∙ ap (λ l. l ++ stages_from s xs) none) ∙ ap (λ l. l ++ (x ∷ stages_from s xs)) (sym none)
      where
        no_early : (ys : List Stmt) → before s (looked_all ys) ≡ [] → stages_before s ys ≡ []
        no_early [] i = refl
        no_early (y ∷ ys) i = by (nat_lt y.stage s) i (no_early ys)
          where
            by : (b : Bool)
                → cond b (record y { op = answered_op (answered_op y.op) } ∷ before s (looked_all ys)) (before s (looked_all ys)) ≡ []
                → (before s (looked_all ys) ≡ [] → stages_before s ys ≡ [])
                → cond b (y ∷ stages_before s ys) (stages_before s ys) ≡ []
            by true j g = absurd (cc j)
            by false j g = g j
    two (z ∷ zs) e k low f = absurd (let i : z.stage < s = early_first s (looked_all xs) z zs e in let j : x.stage ≡ z.stage = cons_head k in omega arith)

    at : (b : Bool) → nat_lt x.stage s ≡ b → (c : Bool) → nat_le s x.stage ≡ c
        → looked_all (x ∷ xs)
        ≡ cond b (record x { op = answered_op (answered_op x.op) } ∷ before s (looked_all xs)) (before s (looked_all xs))
        ++ cond c (record x { op = answered_op x.op } ∷ stages_from s (looked_all xs)) (stages_from s (looked_all xs))
        → (looked_all xs ≡ before s (looked_all xs) ++ stages_from s (looked_all xs) → xs ≡ stages_before s xs ++ stages_from s xs)
        → x ∷ xs ≡ cond b (x ∷ stages_before s xs) (stages_before s xs) ++ cond c (x ∷ stages_from s xs) (stages_from s xs)
    at true d true e k f = absurd (let i = ltb-true _ _ d in let j = leb-true _ _ e in omega arith)
    at true d false e k f = ap (λ l. x ∷ l) (f (tail_same k))
    at false d true e k f = two (before s (looked_all xs)) refl k (leb-true _ _ e) f
    at false d false e k f = absurd (let i = ltb-false _ _ d in let j = leb-false _ _ e in omega arith)

-- where the statements before two stages are the same, none stands between
fewer : (s q : ℕ) (xs : List Stmt) → s ≤ q → length (before s xs) ≤ length (before q xs)
fewer s q [] low = le_refl _
fewer s q (x ∷ xs) low = at (nat_lt x.stage s) refl (nat_lt x.stage q) refl (fewer s q xs low)
  where
    at : (b : Bool) → nat_lt x.stage s ≡ b → (c : Bool) → nat_lt x.stage q ≡ c → length (before s xs) ≤ length (before q xs)
        → length (cond b (record x { op = answered_op x.op } ∷ before s xs) (before s xs)) ≤ length
        (cond c (record x { op = answered_op x.op } ∷ before q xs) (before q xs))
    at true d true e r = omega arith
    at true d false e r = absurd (let i = ltb-true _ _ d in let j = ltb-false _ _ e in omega arith)
    at false d true e r = omega arith
    at false d false e r = r

apart_stages : (path : List ℕ) (s q : ℕ) (xs : List Stmt)
    → suc s ≤ q → before q (onpath path xs) ≡ before (suc s) (onpath path xs)
    → AllOf (λ z. all_hold z.guards path ≡ true → (z.stage ≤ s) ⊎ (q ≤ z.stage)) xs
apart_stages path s q [] low h = tt
apart_stages path s q (x ∷ xs) low h = at (all_hold x.guards path) refl h (apart_stages path s q xs low)
  where
    here : (b : Bool) → nat_lt x.stage q ≡ b → (c : Bool) → nat_lt x.stage (suc s) ≡ c
        → cond b (record x { guards = []; op = answered_op x.op } ∷ before q (onpath path xs)) (before q (onpath path xs))
        ≡ cond c (record x { guards = []; op = answered_op x.op } ∷ before (suc s) (onpath path xs)) (before (suc s) (onpath path xs))
        → ((x.stage ≤ s) ⊎ (q ≤ x.stage)) × (before q (onpath path xs) ≡ before (suc s) (onpath path xs))
    here true d true e k = (inl (let i : x.stage < suc s = ltb-true _ _ e in omega arith), tail_same k)
    here true d false e k =
        absurd
        (let i : suc (length (before q (onpath path xs))) ≡ length (before (suc s) (onpath path xs)) = ap length k in
        let j = fewer (suc s) q (onpath path xs) low in omega arith)
    here false d true e k = absurd (let i = ltb-false _ _ d in let j : x.stage < suc s = ltb-true _ _ e in omega arith)
    here false d false e k = (inr (ltb-false _ _ d), k)

    at : (b : Bool) → all_hold x.guards path ≡ b
        → before q (cond b (record x { guards = [] } ∷ onpath path xs) (onpath path xs))
        ≡ before (suc s) (cond b (record x { guards = [] } ∷ onpath path xs) (onpath path xs))
        → (before q (onpath path xs) ≡ before (suc s) (onpath path xs) → AllOf (λ z. all_hold z.guards path ≡ true → (z.stage ≤ s) ⊎ (q ≤ z.stage)) xs)
        → (all_hold x.guards path ≡ true → (x.stage ≤ s) ⊎ (q ≤ x.stage)) × AllOf (λ z. all_hold z.guards path ≡ true → (z.stage ≤ s) ⊎ (q ≤ z.stage)) xs
    at true t k go = let r = here (nat_lt x.stage q) refl (nat_lt x.stage (suc s)) refl k in ((λ u. r.0), go r.1)
    at false t k go = ((λ u. absurd (false≢true (sym t ∙ u))), go k)

-- GUARDS

late_each : (z : Stmt) (ys : List Stmt)
    → late_for z ys ≡ true → AllOf (λ y. binds_guard y.op z.guards ≡ true → DefinedBy y.stage y.op z.stage) ys
late_each z [] h = tt
late_each z (y ∷ ys) h = (
  one (binds_guard y.op z.guards) (and_left (not (binds_guard y.op z.guards) || defined_by y.stage y.op z.stage) _ h),
  late_each z ys (and_right (not (binds_guard y.op z.guards) || defined_by y.stage y.op z.stage) _ h),
)
  where
    fetch_late : (f : Bool) → (not f || nat_lt y.stage z.stage) ≡ true → f ≡ true → y.stage < z.stage
    fetch_late true k e = ltb-true _ _ k
    fetch_late false k e = absurd (false≢true e)

    one : (b : Bool) → (not b || defined_by y.stage y.op z.stage) ≡ true → b ≡ true → DefinedBy y.stage y.op z.stage
    one true k e = (leb-true _ _ (and_left (nat_le y.stage z.stage) _ k), fetch_late (is_fetch y.op) (and_right (nat_le y.stage z.stage) _ k))
    one false k e = absurd (false≢true e)

-- a definition that stands in no later stage, and if it is a delayed read not in this one
fork_each : (x s : ℕ) (xs : List Stmt)
    → none_of (binds_var x) (stages_from (suc s) xs) ≡ true → none_of (is_fetch_of x) (in_stage s xs) ≡ true
    → AllOf (λ y. binds_var x y.op ≡ true → DefinedBy y.stage y.op s) xs
fork_each x s [] h k = tt
fork_each x s (y ∷ ys) h k = at (nat_le (suc s) y.stage) refl (y.stage == s) refl h k (fork_each x s ys)
  where
    fetch_of : (op : Op) → is_fetch op ≡ true → binds_var x op ≡ true → is_fetch_of x op ≡ true
    fetch_of (DelayedRead z m a) e b = b
    fetch_of _ e b = absurd (false≢true e)

    at : (b : Bool) → nat_le (suc s) y.stage ≡ b → (c : Bool) → (y.stage == s) ≡ c
        → none_of (binds_var x) (cond b (y ∷ stages_from (suc s) ys) (stages_from (suc s) ys)) ≡ true
        → none_of (is_fetch_of x) (cond c (y ∷ in_stage s ys) (in_stage s ys)) ≡ true
        → (none_of (binds_var x) (stages_from (suc s) ys) ≡ true → none_of (is_fetch_of x) (in_stage s ys) ≡ true
        → AllOf (λ y. binds_var x y.op ≡ true → DefinedBy y.stage y.op s) ys)
        → (binds_var x y.op ≡ true → DefinedBy y.stage y.op s) × AllOf (λ y. binds_var x y.op ≡ true → DefinedBy y.stage y.op s) ys
    at true d true e i j go = absurd (let u : suc s ≤ y.stage = leb-true _ _ d in let v = eqb-true _ _ e in omega arith)
    at true d false e i j go = ((λ b. absurd (false≢true (sym (ap not b) ∙ and_left (not (binds_var x y.op)) _ i))), go (and_right (not (binds_var x y.op)) _ i) j)
    at false d true e i j go = (
      (λ b. (let v = eqb-true _ _ e in omega arith, λ f. absurd (false≢true (sym (ap not (fetch_of y.op f b)) ∙ and_left (not (is_fetch_of x y.op)) _ j)))),
      go i (and_right (not (is_fetch_of x y.op)) _ j),
    )
    at false d false e i j go = (
      (λ b. let u : y.stage < suc s = leb-false _ _ d in let v = eqb-false _ _ e in (omega arith, λ f. omega arith)),
      go i j,
    )

-- LOCKS AND CALLS OF A PATH

phase_looked : (m : ℕ) (ph : Phase) (op : Op) → next_phase m ph (answered_op op) ≡ next_phase m ph op
phase_looked m ph (DelayedRead x n a) = refl
phase_looked m ph _ = refl

use_looked : (m : ℕ) (ph : Phase) (op : Op) → use_ok m ph (answered_op op) ≡ use_ok m ph op
use_looked m ph (DelayedRead x n a) = refl
use_looked m ph _ = refl

uses_looked : (m : ℕ) (ph : Phase) (xs : List Stmt) → uses_ok m ph (looked_all xs) ≡ uses_ok m ph xs
uses_looked m ph [] = refl
uses_looked m ph (x ∷ xs) =
    ap₂ (λ b q. b && uses_ok m q (looked_all xs)) (use_looked m ph x.op) (phase_looked m ph x.op)
    ∙ ap (λ b. use_ok m ph x.op && b) (uses_looked m (next_phase m ph x.op) xs)

-- the phase of m's write after statements stays the same where delayed reads are answered at once
pub phases_looked : (m : ℕ) (ph : Phase) (xs : List Stmt) → phase_all m ph (looked_all xs) ≡ phase_all m ph xs
phases_looked m ph [] = refl
phases_looked m ph (x ∷ xs) = ap (λ q. phase_all m q (looked_all xs)) (phase_looked m ph x.op) ∙ phases_looked m (next_phase m ph x.op) xs

call_looked : (b : Bool) (op : Op) → (call_ok b (answered_op op) ≡ call_ok b op) × (is_call (answered_op op) ≡ is_call op)
call_looked b (DelayedRead x m a) = (refl, refl)
call_looked b _ = (refl, refl)

calls_looked : (b : Bool) (xs : List Stmt) → calls_ok b (looked_all xs) ≡ calls_ok b xs
calls_looked b [] = refl
calls_looked b (x ∷ xs) =
    ap₂ (λ c d. c && calls_ok (b || d) (looked_all xs)) (call_looked b x.op).0 (call_looked b x.op).1
    ∙ ap (λ d. call_ok b x.op && d) (calls_looked (b || is_call x.op) xs)

-- DELAYED READS

from_mem : (m : ℕ) (op : Op) → is_delayed_read m op ≡ true → (R : Type 0) → ((x n a : ℕ) → op ≡ DelayedRead x n a → n ≡ m → R) → R
from_mem m (DelayedRead x n a) h R go = go x n a refl (eqb-true n m h)
from_mem m _ h R go = absurd (false≢true h)

like_none : (x m : ℕ) (ys : List Stmt) → none_like x m ys ≡ true → none_of (is_delayed_read m) ys ≡ true
like_none x m [] h = refl
like_none x m (y ∷ ys) h =
    ap₂ (λ a b. a && b) (one y.op (and_left (Rattle.pdl_theory_turns.specs.Facts.fetches_no x m y.op) _ h))
    (like_none x m ys (and_right (Rattle.pdl_theory_turns.specs.Facts.fetches_no x m y.op) _ h))
  where
    one : (op : Op) → Rattle.pdl_theory_turns.specs.Facts.fetches_no x m op ≡ true → not (is_delayed_read m op) ≡ true
    one (DelayedRead z n a) k = ap not (ne_eqb n m (λ e. false≢true (sym (ap not (eq-eqb m n (sym e))) ∙ and_right (not (x == z)) _ k)))
    one _ k = refl

-- at most one read of a memory, where they stand in one stage and differ there
one_there : (m s : ℕ) (xs : List Stmt)
    → AllOf (λ y. is_delayed_read m y.op ≡ true → y.stage ≡ s) xs → fetch_apart (in_stage s xs) ≡ true
    → at_most_one (is_delayed_read m) xs ≡ true
one_there m s [] h k = refl
one_there m s (x ∷ xs) h k = at (is_delayed_read m x.op) refl (one_there m s xs h.1)
  where
    none_else : (ys : List Stmt) → AllOf (λ y. is_delayed_read m y.op ≡ true → y.stage ≡ s) ys
        → none_of (is_delayed_read m) (in_stage s ys) ≡ true → none_of (is_delayed_read m) ys ≡ true
    none_else [] i j = refl
    none_else (y ∷ ys) i j = by (is_delayed_read m y.op) refl (y.stage == s) refl j (none_else ys i.1)
      where
        by : (b : Bool) → is_delayed_read m y.op ≡ b → (c : Bool) → (y.stage == s) ≡ c
            → none_of (is_delayed_read m) (cond c (y ∷ in_stage s ys) (in_stage s ys)) ≡ true
            → (none_of (is_delayed_read m) (in_stage s ys) ≡ true → none_of (is_delayed_read m) ys ≡ true) → none_of (is_delayed_read m) (y ∷ ys) ≡ true
        by true d true e u go = absurd (false≢true (sym (ap not d) ∙ and_left (not (is_delayed_read m y.op)) _ u))
        by true d false e u go = absurd (eqb-false _ _ e (i.0 d))
        by false d true e u go = ap₂ (λ a b. not a && b) d (go (and_right (not (is_delayed_read m y.op)) _ u))
        by false d false e u go = ap₂ (λ a b. not a && b) d (go u)

    rest : fetch_apart (in_stage s xs) ≡ true
    rest = by (x.stage == s) k
      where
        by : (b : Bool) → fetch_apart (cond b (x ∷ in_stage s xs) (in_stage s xs)) ≡ true → fetch_apart (in_stage s xs) ≡ true
        by true j = and_right (alone_op x.op (in_stage s xs)) _ j
        by false j = j

    others : is_delayed_read m x.op ≡ true → none_of (is_delayed_read m) xs ≡ true
    others f =
        let here : x.stage ≡ s = h.0 f in
        let k' : fetch_apart (x ∷ in_stage s xs) ≡ true =
        subst (λ b. fetch_apart (cond b (x ∷ in_stage s xs) (in_stage s xs)) ≡ true) (eq-eqb x.stage s here) k in
        from_mem m x.op f _
        (λ y n a e i. none_else xs h.1
        (subst (λ o. none_of (is_delayed_read o) (in_stage s xs) ≡ true) i
        (like_none y n (in_stage s xs) (subst (λ op. alone_op op (in_stage s xs) ≡ true) e (and_left (alone_op x.op (in_stage s xs)) _ k')))))

    at : (b : Bool) → is_delayed_read m x.op ≡ b
        → (fetch_apart (in_stage s xs) ≡ true → at_most_one (is_delayed_read m) xs ≡ true)
        → at_most_one (is_delayed_read m) (x ∷ xs) ≡ true
    at true e go = ap (λ b. cond b (none_of (is_delayed_read m) xs) (at_most_one (is_delayed_read m) xs)) e ∙ others e
    at false e go = ap (λ b. cond b (none_of (is_delayed_read m) xs) (at_most_one (is_delayed_read m) xs)) e ∙ go rest

-- what holds of each statement of each stage holds of all
each_stage : (P : Stmt → Type 0) (xs : List Stmt) → ((s : ℕ) → AllOf P (in_stage s xs)) → AllOf P xs
each_stage P [] h = tt
each_stage P (x ∷ xs) h = (
  (subst (λ b. AllOf P (cond b (x ∷ in_stage x.stage xs) (in_stage x.stage xs))) (eq-eqb x.stage x.stage refl) (h x.stage)).0,
  each_stage P xs (λ s. rest s (x.stage == s) (h s)),
)
  where
    rest : (s : ℕ) (b : Bool) → AllOf P (cond b (x ∷ in_stage s xs) (in_stage s xs)) → AllOf P (in_stage s xs)
    rest s true k = k.1
    rest s false k = k

none_all : (test : Op → Bool) (xs : List Stmt) → AllOf (λ y. test y.op ≡ true → ⊥) xs → none_of test xs ≡ true
none_all test [] h = refl
none_all test (x ∷ xs) h = ap₂ (λ a b. not a && b) (by_bool (test x.op) (test x.op ≡ false) (λ e. absurd (h.0 e)) (λ e. e)) (none_all test xs h.1)

module _ (p : Pipe) (acc : Sound p) where
  -- THE STAGE GRAPH

  led : (s q : ℕ) (path : List ℕ) → s < length p.stages → goes_to (stage_at p s).next path ≡ Some q → (next_of p s path ≡ q) × (q < length p.stages)
  led s q path low e = (ap (stage_or (length p.stages)) e, at (nat_lt (next_of p s path) (length p.stages)) refl)
    where
      none : None ≡ Some q → ⊥
      none k = cc

      at : (b : Bool) → nat_lt (next_of p s path) (length p.stages) ≡ b → q < length p.stages
      at true i = subst (λ n. n < length p.stages) (ap (stage_or (length p.stages)) e) (ltb-true _ _ i)
      at false i = absurd (none (sym (acc.graph.leaves s path low ∙ ap (λ b. cond b (Some (next_of p s path)) None) i) ∙ e))

  next_up : (s q : ℕ) → Leads p s q → (s < q) × (q < length p.stages)
  next_up s q l = let n = led s q l.0 l.2 l.1 in (subst (λ m. s < m) n.0 (acc.graph.up s l.0 l.2), n.1)

  between_of : (c : List Branch) (s q b : ℕ) → Leads p s q → Within p c s → Home p c q → Below p c b s → Within p c b → b < q
      → (f : ℕ) × ((stage_at p q).merges ≡ Some f) × (is_inside p f b ≡ true)
  between_of c s q b l w t h there i =
      let n = led s q l.0 l.2 l.1 in
      subst (λ m. (f : ℕ) × ((stage_at p m).merges ≡ Some f) × (is_inside p f b ≡ true)) n.0
      (acc.graph.between c s l.0 b l.2 w (subst (Home p c) (sym n.0) t) (subst (λ m. m < length p.stages) (sym n.0) n.1) h there
      (subst (λ m. b < m) (sym n.0) i))

  flow_graph : Ways p
  flow_graph =
      record {
        some_stage = acc.graph.some_stage;
        trunk_start = acc.graph.trunk_start;
        up = next_up;
        last = λ s path low e. let k = acc.graph.last s path low (ap (stage_or (length p.stages)) e) in (k.1, k.0);
        jump = λ c s q r l w t i j. let n = led s q l.0 l.2 l.1 in acc.graph.jump c s l.0 r l.2 w t i (subst (λ m. r ≤ m) (sym n.0) j) ∙ n.0;
        between = between_of;
        way = λ s q l. let n = led s q l.0 l.2 l.1 in subst (λ m. Way p s m) n.0 (acc.branches.way s l.0 l.2);
        entry =
            λ x c q r l t w. let n = led x.fork q l.0 l.2 l.1 in subst (λ m. m ≤ r) n.0
            (acc.branches.entry x c l.0 r l.2 (subst (Home p (x ∷ c)) (sym n.0) t) w);
        fork_below = acc.branches.fork;
        merge = λ s q f l e.
            let n = led s q l.0 l.2 l.1 in
            subst
            (λ m. ((s ≡ f) × ((stage_at p m).branches ≡ (stage_at p s).branches)) ⊎
            ((x : Branch) × ((stage_at p s).branches ≡ x ∷ (stage_at p m).branches) × (x.fork ≡ f)
            × ((b : ℕ) → Within p (x ∷ (stage_at p m).branches) b → b ≤ s))) n.0
            (acc.branches.merge s l.0 f l.2 (subst (λ m. (stage_at p m).merges ≡ Some f) (sym n.0) e));
        merged = acc.merged;
        unmerged = acc.unmerged;
      }

  -- PATHS

  arrives_at : (path : List ℕ) (s q : ℕ) → s < length p.stages → goes_to (stage_at p s).next path ≡ Some q
      → visits_stage p path s ≡ true → visits_stage p path q ≡ true
  arrives_at path s q low e on = subst (λ m. visits_stage p path m ≡ true) (led s q path low e).0 (arrives p acc.branches s path low on)

  path_order : (path : List ℕ) (s : ℕ) → onpath path p.stmts ≡ onpath path (stages_before s p.stmts) ++ onpath path (stages_from s p.stmts)
  path_order path s =
      order_looked s (onpath path p.stmts) (subst (λ l. l ≡ before s l ++ stages_from s l) (path_looked path p.stmts) ((acc.pathwise.paths path).ordered s))
      ∙ ap₂ (λ a b. a ++ b) (before_path path s p.stmts) (from_path path s p.stmts)

  stages_on : (path : List ℕ) (s : ℕ) → s < length p.stages → visits_stage p path s ≡ true
      → AllOf (λ z. all_hold z.guards path ≡ true → (z.stage ≤ s) ⊎ (next_of p s path ≤ z.stage)) p.stmts
  stages_on path s low on = apart_stages path s (next_of p s path) p.stmts (acc.graph.up s path low) (acc.skips path s low on)

  late_on : (path : List ℕ)
      → AllOf (λ z. all_hold z.guards path ≡ true → AllOf (λ y. binds_guard y.op z.guards ≡ true → DefinedBy y.stage y.op z.stage) p.stmts) p.stmts
  late_on path =
      all_map (λ z h t. by_or (is_dead z.guards) _ _ h (λ d. absurd (false≢true (sym (dead_none z.guards path d) ∙ t))) (λ k. late_each z p.stmts k)) p.stmts
      (all_of (λ z. is_dead z.guards || late_for z p.stmts) p.stmts acc.guards_late)

  -- DELAYED READS

  fetch_ok_at : (s : ℕ) (ys : List Stmt) → AllFetches p acc.fetch s ys
      → AllOf (λ y. (m : ℕ) → is_delayed_read m y.op ≡ true → (acc.fetch m ≡ s) × (m < length p.mems)) ys
  fetch_ok_at s [] h = tt
  fetch_ok_at s (y ∷ ys) h = (
    (λ m f. from_mem m y.op f _
        (λ x n a e i. let k : Found p acc.fetch s n = (subst (λ op. FetchIf p acc.fetch s y.guards op) e h.0).0 in
        subst (λ o. (acc.fetch o ≡ s) × (o < length p.mems)) i (k.0, k.1))),
    fetch_ok_at s ys h.1,
  )

  in_same : (s : ℕ) (xs : List Stmt) → AllOf (λ y. y.stage ≡ s) (in_stage s xs)
  in_same s [] = tt
  in_same s (x ∷ xs) = at (x.stage == s) refl (in_same s xs)
    where
      at : (b : Bool) → (x.stage == s) ≡ b → AllOf (λ y. y.stage ≡ s) (in_stage s xs) → AllOf (λ y. y.stage ≡ s) (cond b (x ∷ in_stage s xs) (in_stage s xs))
      at true e r = (eqb-true _ _ e, r)
      at false e r = r

  both_of : {A B C : Stmt → Type 0} → ((x : Stmt) → A x → B x → C x) → (xs : List Stmt) → AllOf A xs → AllOf B xs → AllOf C xs
  both_of f [] h k = tt
  both_of f (x ∷ xs) h k = (f x h.0 k.0, both_of f xs h.1 k.1)

  fetched : AllOf (λ y. (m : ℕ) → is_delayed_read m y.op ≡ true → (acc.fetch m ≡ y.stage) × (m < length p.mems)) p.stmts
  fetched =
      each_stage _ p.stmts
      (λ s. both_of (λ y f e. λ m i. subst (λ r. (acc.fetch m ≡ r) × (m < length p.mems)) (sym e) (f m i))
      (in_stage s p.stmts) (fetch_ok_at s (in_stage s p.stmts) (acc.fetch_ok s)) (in_same s p.stmts))

  apart_guess : (path : List ℕ) (s : ℕ)
      → (none_of is_spec_call (onpath path (in_stage s p.stmts)) ≡ true) ⊎ (none_of is_check (onpath path (in_stage s p.stmts)) ≡ true)
  apart_guess path s =
      subst (λ l. (none_of is_spec_call l ≡ true) ⊎ (none_of is_check l ≡ true)) (stage_path path s p.stmts)
      (apart_of (verify_stage (at_once p).stmts) s Unmade None (onpath path p.stmts)
      (subst (λ l. makings_ok (verify_stage (at_once p).stmts) Unmade l ≡ true) (path_looked path p.stmts) (acc.pathwise.makings path))
      (subst (λ l. checks_apart None l ≡ true) (path_looked path p.stmts) (acc.pathwise.apart path)))

  apart_update : (path : List ℕ) (s : ℕ)
      → (none_of is_update (onpath path (in_stage s p.stmts)) ≡ true) ⊎ (none_of is_verify (onpath path (in_stage s p.stmts)) ≡ true)
  apart_update path s =
      subst (λ l. (none_of is_update l ≡ true) ⊎ (none_of is_verify l ≡ true)) (stage_path path s p.stmts)
      (update_or_verify (verify_stage (at_once p).stmts) s Unmade (onpath path p.stmts)
      (subst (λ l. makings_ok (verify_stage (at_once p).stmts) Unmade l ≡ true) (path_looked path p.stmts) (acc.pathwise.makings path)))

  -- the facts of the simulation

  -- a sound pipe has the facts that the simulation takes, in the form in which the rules give them
  pub flow_rules : FlowRules p
  flow_rules =
      record {
        graph = flow_graph;
        branches = acc.trunk_holds;
        reserves = acc.reserves;
        releases = λ m. sym (all_at_looked m (commit_stage p m) p.stmts) ∙ acc.pathwise.releases m;
        trunk_reserve = acc.graph.trunk_reserve;
        trunk_commit = acc.graph.trunk_commit;
        verifies = acc.verifies;
        fixed_guards = sym (fixed_looked p.stmts) ∙ acc.pathwise.fixed_guards;
        inside = all_map (λ z h. ltb-true _ _ h) p.stmts (all_of (λ z. nat_lt z.stage (length p.stages)) p.stmts acc.inside);
        order = path_order;
        on_stages = stages_on;
        arrives = arrives_at;
        guards_late = late_on;
        forks_late = λ path s x a b on e. fork_each x s p.stmts (acc.fork_bound s x a b e) (acc.fork_seen path s x a b on e);
        uses =
            λ path m. sym (uses_looked m Fresh (onpath path p.stmts))
            ∙ uses_of m Fresh (looked_all (onpath path p.stmts))
            (subst (λ l. Rattle.pdl_theory_turns.specs.Scans.phases_ok m Fresh l ≡ true) (path_looked path p.stmts) ((acc.pathwise.paths path).phases m));
        over =
            λ path m. ap is_over (sym (phases_looked m Fresh (onpath path p.stmts)) ∙ ap (phase_all m Fresh) (sym (path_looked path p.stmts)))
            ∙ (acc.pathwise.paths path).over m;
        unreserved = acc.unreserved;
        unreleased = acc.unreleased;
        unfetched = λ m past. none_all (is_delayed_read m) p.stmts (all_map (λ y f e. let k = (f m e).1 in absurd (omega arith)) p.stmts fetched);
        calls =
            λ path. sym (calls_looked false (onpath path p.stmts))
            ∙ ap (calls_ok false) (sym (path_looked path p.stmts))
            ∙ calls_of (verify_stage (at_once p).stmts) Unmade (onpath path (at_once p).stmts) (acc.pathwise.makings path);
        advice = acc.advice;
        guess_apart = apart_guess;
        updates =
            λ path. sym (once_looked false (onpath path p.stmts)) ∙ ap (once is_update false) (sym (path_looked path p.stmts)) ∙ acc.pathwise.updated path;
        update_apart = apart_update;
        one_fetch = λ m. one_there m (acc.fetch m) p.stmts (all_map (λ y f e. sym (f m e).0) p.stmts fetched) (acc.fetch_alone (acc.fetch m));
        fetch_inside = acc.fetch_inside;
      }

  -- a sound pipe has the facts that the simulation takes
  pub sound_flows : Flows p
  sound_flows = flows_of_rules p flow_rules
