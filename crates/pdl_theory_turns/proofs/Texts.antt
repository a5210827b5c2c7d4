-- What tests of statements tell: their order, what they make, which memories they know, and each path.
use Rattle.std.proofs.Common.{◌≡◌, refl, sym, ap, ap₂, ◌∙◌, subst, ℕ, zero, suc, ◌<◌, ◌≤◌, Bool, true, false, ◌&&◌, ◌||◌, not, List, [], ◌∷◌, ◌++◌, length, Option, Some, None, is_none, nat_lt, ◌==◌, cond, arith, slice_index, slice_index_or, ltb-true, ltb-false, le-ltb, leb-true, le-leb}
use Rattle.std.proofs.lemmas.Bool.{eqb-true, eqb-false, ne_eqb, lt-leb, and_from, or_left, or_right}
use Rattle.pdl_theory_turns.specs.semantics.Flat.{list_all, takes_branch, all_hold, Op, CombRead, DelayedRead, Write, ReserveRead, ReserveWrite, Release, Stmt, Guard, Pipe}
use Rattle.pdl_theory_turns.specs.semantics.Stages.{onpath, in_stage, is_reserve, is_release, is_verify, verify_stage}
use Rattle.pdl_theory_turns.specs.semantics.Sound.{all_below, stages_from, is_fetch}
use Rattle.pdl_theory_turns.specs.Alone.{before, answered_op}
use Rattle.pdl_theory_turns.specs.Scans.{no_guards, none_of, all_at, Scan, scan_after, op_ok, reads_ok, Fresh, after_write, after_reserve, may_write, next_phase, phase_ok, phases_ok, phase_all}
use Rattle.pdl_theory_turns.specs.Checks.{in_text_order, knows_memory, alike, agrees_with, without, choose, on_paths}
use Rattle.pdl_theory_turns.proofs.Writes.{and_left, and_right}

-- NUMBERS AND LISTS

-- a test that all numbers below n pass is passed by each of them
pub below_at : (test : ℕ → Bool) (n m : ℕ) → all_below test n ≡ true → m < n → test m ≡ true
below_at test zero m h low = absurd (omega arith)
below_at test (suc n) m h low = at (m == n) refl (below_at test n m (and_left _ _ h))
  where
    small : (m ≡ n → ⊥) → m < n
    small apart = grind (arith)

    at : (b : Bool) → (m == n) ≡ b → (m < n → test m ≡ true) → test m ≡ true
    at true e f = subst (λ k. test k ≡ true) (sym (eqb-true m n e)) (and_right (all_below test n) _ h)
    at false e f = f (small (eqb-false m n e))

-- past the end of a list there is what stands for nothing
pub past_end : {X : Type 0} → (xs : List X) (m : ℕ) (none : X) → length xs ≤ m → slice_index_or xs m none ≡ none
past_end [] m none h = refl
past_end (x ∷ xs) zero none h = absurd (omega arith)
past_end (x ∷ xs) (suc m) none h = past_end xs m none (omega arith)

-- nothing is there where the test of that says so
pub none_there : {X : Type 0} → (o : Option X) → is_none o ≡ true → o ≡ None
none_there None h = refl
none_there (Some x) h = absurd (cc h)

-- what holds wherever a first thing does holds where that does
pub where_true : (a b : Bool) → (not a || b) ≡ true → a ≡ true → b ≡ true
where_true true b h e = h
where_true false b h e = absurd (cc e)

apart : (m n k : ℕ) → nat_lt k n ≡ true → n ≤ m → (k == m) ≡ false
apart m n k h low = let i : k < n = ltb-true _ _ h in ne_eqb k m (λ e. absurd (omega arith))

-- THE ORDER OF STATEMENTS

looked_same : (op : Op) → not (is_fetch op) ≡ true → answered_op op ≡ op
looked_same (DelayedRead x m a) h = absurd (cc h)
looked_same _ h = refl

-- no statement stands before stage s where they stand in order and the first in s or later
pub none_before : (s l : ℕ) (xs : List Stmt) → in_text_order l xs ≡ true → s ≤ l → before s xs ≡ []
none_before s l [] h k = refl
none_before s l (x ∷ xs) h k =
    let low : l ≤ x.stage = leb-true _ _ (and_left _ _ h) in
    ap (λ b. cond b (record x { op = answered_op x.op } ∷ before s xs) (before s xs)) (le-ltb x.stage s (omega arith))
    ∙ none_before s x.stage xs (and_right _ _ h) (omega arith)

-- statements in order before stage s + 1 are those before s and those of s, where no read is delayed
pub pieces : (s l : ℕ) (xs : List Stmt)
    → in_text_order l xs ≡ true → none_of is_fetch xs ≡ true → before (suc s) xs ≡ before s xs ++ in_stage s xs
pieces s l [] h f = refl
pieces s l (x ∷ xs) h f = at (nat_lt x.stage (suc s)) (nat_lt x.stage s) (x.stage == s) refl refl refl (pieces s x.stage xs (and_right _ _ h) (and_right _ _ f))
  where
    at : (a b c : Bool) → nat_lt x.stage (suc s) ≡ a → nat_lt x.stage s ≡ b → (x.stage == s) ≡ c → before (suc s) xs ≡ before s xs ++ in_stage s xs
        → cond a (record x { op = answered_op x.op } ∷ before (suc s) xs) (before (suc s) xs)
        ≡ cond b (record x { op = answered_op x.op } ∷ before s xs) (before s xs) ++ cond c (x ∷ in_stage s xs) (in_stage s xs)
    at true true true e g i k = absurd (let j = eqb-true x.stage s i in let l : x.stage < s = ltb-true _ _ g in omega arith)
    at true true false e g i k = ap (λ ys. record x { op = answered_op x.op } ∷ ys) k
    at true false true e g i k =
        let none : before s xs ≡ [] = none_before s x.stage xs (and_right _ _ h) (let j = eqb-true x.stage s i in omega arith) in
        ap₂ (λ op ys. record x { op = op } ∷ ys) (looked_same x.op (and_left _ _ f)) (k ∙ ap (λ ys. ys ++ in_stage s xs) none)
        ∙ sym (ap (λ ys. ys ++ x ∷ in_stage s xs) none)
    at true false false e g i k = absurd (between (ltb-true x.stage (suc s) e) (ltb-false x.stage s g) (eqb-false x.stage s i))
      where
        between : x.stage < suc s → s ≤ x.stage → (x.stage ≡ s → ⊥) → ⊥
        between u v w = w (omega arith)
    at false true c e g i k = absurd (let u : suc s ≤ x.stage = ltb-false _ _ e in let v : x.stage < s = ltb-true _ _ g in omega arith)
    at false false true e g i k = absurd (let u : suc s ≤ x.stage = ltb-false _ _ e in let j = eqb-true x.stage s i in omega arith)
    at false false false e g i k = k

-- statements in order are those before stage s and then those from it on, where no read is delayed
pub ordered : (s l : ℕ) (xs : List Stmt) → in_text_order l xs ≡ true → none_of is_fetch xs ≡ true → xs ≡ before s xs ++ stages_from s xs
ordered s l [] h f = refl
ordered s l (x ∷ xs) h f = at (nat_lt x.stage s) refl (ordered s x.stage xs (and_right _ _ h) (and_right _ _ f))
  where
    at : (b : Bool) → nat_lt x.stage s ≡ b → xs ≡ before s xs ++ stages_from s xs
        → x ∷ xs ≡ cond b (record x { op = answered_op x.op } ∷ before s xs) (before s xs) ++ stages_from s (x ∷ xs)
    at true e k =
        ap₂ (λ op ys. record x { op = op } ∷ ys) (sym (looked_same x.op (and_left _ _ f))) k
        ∙ ap (λ c. record x { op = answered_op x.op } ∷ (before s xs ++ cond c (x ∷ stages_from s xs) (stages_from s xs)))
        (sym (lt-leb s x.stage (ltb-true _ _ e)))
    at false e k =
        let none : before s xs ≡ [] = none_before s x.stage xs (and_right _ _ h) (ltb-false _ _ e) in
        ap (λ ys. x ∷ ys) (k ∙ ap (λ ys. ys ++ stages_from s xs) none)
        ∙ ap (λ c. cond c (x ∷ stages_from s xs) (stages_from s xs)) (sym (le-leb s x.stage (ltb-false _ _ e)))
        ∙ ap (λ ys. ys ++ stages_from s (x ∷ xs)) (sym none)

-- statements that all stand in stages before k are those before k, where no read is delayed
pub whole : (k : ℕ) (xs : List Stmt) → list_all (λ x. nat_lt x.stage k) xs ≡ true → none_of is_fetch xs ≡ true → before k xs ≡ xs
whole k [] h f = refl
whole k (x ∷ xs) h f =
    ap (λ b. cond b (record x { op = answered_op x.op } ∷ before k xs) (before k xs)) (and_left (nat_lt x.stage k) _ h)
    ∙ ap₂ (λ op ys. record x { op = op } ∷ ys) (looked_same x.op (and_left _ _ f)) (whole k xs (and_right (nat_lt x.stage k) _ h) (and_right _ _ f))

-- READS AND CALLS

-- the reads in a first part of statements are in order where those in all of them are
pub reads_first : (p : Pipe) (c : Scan) (xs ys : List Stmt) → reads_ok p c (xs ++ ys) ≡ true → reads_ok p c xs ≡ true
reads_first p c [] ys h = refl
reads_first p c (x ∷ xs) ys h =
    and_from _ _ (and_left (no_guards x.guards && op_ok p x.stage c x.op) _ h) (reads_first p (scan_after x.op c) xs ys (and_right _ _ h))

-- no read is delayed in statements whose reads are in order
pub no_fetch : (p : Pipe) (c : Scan) (xs : List Stmt) → reads_ok p c xs ≡ true → none_of is_fetch xs ≡ true
no_fetch p c [] h = refl
no_fetch p c (x ∷ xs) h = and_from _ _ (here x.op (and_right _ _ (and_left _ _ h))) (no_fetch p (scan_after x.op c) xs (and_right _ _ h))
  where
    here : (op : Op) → op_ok p x.stage c op ≡ true → not (is_fetch op) ≡ true
    here (DelayedRead y m a) k = k
    here _ k = refl

-- without a verify there is no stage of the verifies
pub no_verify : (xs : List Stmt) → none_of is_verify xs ≡ true → verify_stage xs ≡ None
no_verify [] h = refl
no_verify (x ∷ xs) h = at (is_verify x.op) (and_left _ _ h) (no_verify xs (and_right _ _ h))
  where
    at : (b : Bool) → not b ≡ true → verify_stage xs ≡ None → cond b (Some x.stage) (verify_stage xs) ≡ None
    at true e k = absurd (cc e)
    at false e k = k

-- MEMORIES THAT ARE NOT THERE

-- all statements of a kind of which there is none stand in any one stage
pub all_at_none : (test : Op → Bool) (s : ℕ) (xs : List Stmt) → none_of test xs ≡ true → all_at test s xs ≡ true
all_at_none test s [] h = refl
all_at_none test s (x ∷ xs) h = and_from _ _ (or_left (not (test x.op)) _ (and_left _ _ h)) (all_at_none test s xs (and_right _ _ h))

no_reserve_op : (m n : ℕ) (op : Op) → knows_memory n op ≡ true → n ≤ m → not (is_reserve m op) ≡ true
no_reserve_op m n (ReserveRead k a) h low = ap not (apart m n k h low)
no_reserve_op m n (ReserveWrite k a) h low = ap not (apart m n k h low)
no_reserve_op m n _ h low = refl

no_release_op : (m n : ℕ) (op : Op) → knows_memory n op ≡ true → n ≤ m → not (is_release m op) ≡ true
no_release_op m n (Release k a) h low = ap not (apart m n k h low)
no_release_op m n _ h low = refl

-- a kind that no statement on the first n memories is has none where the statements know only these
pub none_known : (test : Op → Bool) (n : ℕ) (xs : List Stmt)
    → ((op : Op) → knows_memory n op ≡ true → not (test op) ≡ true) → list_all (λ x. knows_memory n x.op) xs ≡ true
    → none_of test xs ≡ true
none_known test n [] f h = refl
none_known test n (x ∷ xs) f h = and_from _ _ (f x.op (and_left (knows_memory n x.op) _ h)) (none_known test n xs f (and_right (knows_memory n x.op) _ h))

-- nothing reserves a memory past the first n where the statements know only these
pub no_reserve : (m n : ℕ) (xs : List Stmt) → list_all (λ x. knows_memory n x.op) xs ≡ true → n ≤ m → none_of (is_reserve m) xs ≡ true
no_reserve m n xs h low = none_known (is_reserve m) n xs (λ op k. no_reserve_op m n op k low) h

-- nothing releases a memory past the first n where the statements know only these
pub no_release : (m n : ℕ) (xs : List Stmt) → list_all (λ x. knows_memory n x.op) xs ≡ true → n ≤ m → none_of (is_release m) xs ≡ true
no_release m n xs h low = none_known (is_release m) n xs (λ op k. no_release_op m n op k low) h

fresh_op : (p : Pipe) (s m n : ℕ) (c : Scan) (op : Op)
    → knows_memory n op ≡ true → op_ok p s c op ≡ true → n ≤ m
    → (phase_ok m Fresh op ≡ true) × (next_phase m Fresh op ≡ Fresh)
fresh_op p s m n c (CombRead x j a) h k low = (or_right (not (j == m)) true refl, refl)
fresh_op p s m n c (DelayedRead x j a) h k low = absurd (cc k)
fresh_op p s m n c (Write j a e) h k low =
    (ap (λ b. not b || may_write Fresh a) (apart m n j h low), ap (λ b. cond b (after_write Fresh a) Fresh) (apart m n j h low))
fresh_op p s m n c (ReserveWrite j a) h k low = (or_right (not (j == m)) true refl, ap (λ b. cond b (after_reserve Fresh a) Fresh) (apart m n j h low))
fresh_op p s m n c (Release j a) h k low = (or_right (not (j == m)) true refl, ap (λ b. cond b Fresh Fresh) (apart m n j h low))
fresh_op p s m n c _ h k low = (refl, refl)

-- a memory past the first n stays in its first phase where the statements know only these
pub stays_fresh : (p : Pipe) (m n : ℕ) (c : Scan) (xs : List Stmt)
    → list_all (λ x. knows_memory n x.op) xs ≡ true → reads_ok p c xs ≡ true → n ≤ m
    → (phases_ok m Fresh xs ≡ true) × (phase_all m Fresh xs ≡ Fresh)
stays_fresh p m n c [] h k low = (refl, refl)
stays_fresh p m n c (x ∷ xs) h k low =
    let ok = and_left (no_guards x.guards && op_ok p x.stage c x.op) _ k in
    let here = fresh_op p x.stage m n c x.op (and_left (knows_memory n x.op) _ h) (and_right (no_guards x.guards) _ ok) low in
    let rest =
    stays_fresh p m n (scan_after x.op c) xs (and_right (knows_memory n x.op) _ h) (and_right (no_guards x.guards && op_ok p x.stage c x.op) _ k) low in (
      and_from _ _ (and_from _ _ (and_left (no_guards x.guards) _ ok) here.0) (subst (λ ph. phases_ok m ph xs ≡ true) (sym here.1) rest.0),
      ap (λ ph. phase_all m ph xs) here.1 ∙ rest.1,
    )

-- PATHS

side_alike : (a b : Bool) (v : ℕ) → (v == 1) ≡ b → takes_branch a v ≡ alike a b
side_alike true b v h = h ∙ plain b
  where
    plain : (b : Bool) → b ≡ alike true b
    plain b = refl
side_alike false b v h = ap not h

taken_split : (g : ℕ) (b : Bool) (hs : List Guard) (env : List ℕ)
    → (slice_index env g == 1) ≡ b → all_hold hs env ≡ (agrees_with g b hs && all_hold (without g hs) env)
taken_split g b [] env e = refl
taken_split g b (h ∷ hs) env e = at (h.var == g) refl (taken_split g b hs env e)
  where
    swap : (x y z : Bool) → (x && (y && z)) ≡ (y && (x && z))
    swap true true z = refl
    swap true false z = refl
    swap false true z = refl
    swap false false z = refl

    assoc : (x y z : Bool) → (x && (y && z)) ≡ ((x && y) && z)
    assoc true y z = refl
    assoc false y z = refl

    at : (c : Bool) → (h.var == g) ≡ c → all_hold hs env ≡ (agrees_with g b hs && all_hold (without g hs) env)
        → (takes_branch h.first (slice_index env h.var) && all_hold hs env)
        ≡ (((not c || alike h.first b) && agrees_with g b hs) && all_hold (cond c (without g hs) (h ∷ without g hs)) env)
    at true i k =
        ap₂ (λ x y. x && y) (side_alike h.first b (slice_index env h.var) (ap (λ n. slice_index env n == 1) (eqb-true h.var g i) ∙ e)) k
        ∙ assoc (alike h.first b) (agrees_with g b hs) (all_hold (without g hs) env)
    at false i k =
        ap (λ y. takes_branch h.first (slice_index env h.var) && y) k
        ∙ swap (takes_branch h.first (slice_index env h.var)) (agrees_with g b hs) (all_hold (without g hs) env)

chosen : (g : ℕ) (b : Bool) (xs : List Stmt) (env : List ℕ) → (slice_index env g == 1) ≡ b → onpath env xs ≡ onpath env (choose g b xs)
chosen g b [] env e = refl
chosen g b (x ∷ xs) env e =
    ap (λ c. cond c (record x { guards = [] } ∷ onpath env xs) (onpath env xs)) (taken_split g b x.guards env e)
    ∙ at (agrees_with g b x.guards) (chosen g b xs env e)
  where
    at : (c : Bool) → onpath env xs ≡ onpath env (choose g b xs)
        → cond (c && all_hold (without g x.guards) env) (record x { guards = [] } ∷ onpath env xs) (onpath env xs)
        ≡ onpath env (cond c (record x { guards = without g x.guards } ∷ choose g b xs) (choose g b xs))
    at true k = ap (λ ys. cond (all_hold (without g x.guards) env) (record x { guards = [] } ∷ ys) ys) k
    at false k = k

no_guard : (gs : List Guard) → no_guards gs ≡ true → gs ≡ []
no_guard [] h = refl
no_guard (g ∷ gs) h = absurd (cc h)

unguarded : (p : Pipe) (c : Scan) (xs : List Stmt) (env : List ℕ) → reads_ok p c xs ≡ true → onpath env xs ≡ xs
unguarded p c [] env h = refl
unguarded p c (x ∷ xs) env h =
    let none : x.guards ≡ [] = no_guard x.guards (and_left (no_guards x.guards) _ (and_left (no_guards x.guards && op_ok p x.stage c x.op) _ h)) in
    ap (λ gs. cond (all_hold gs env) (record x { guards = [] } ∷ onpath env xs) (onpath env xs)) none
    ∙ ap₂ (λ gs ys. record x { guards = gs } ∷ ys) (sym none)
    (unguarded p (scan_after x.op c) xs env (and_right (no_guards x.guards && op_ok p x.stage c x.op) _ h))

-- what holds on all paths that are tried holds on each path
pub on_each_path : (p : Pipe) (c : Scan) (gs : List ℕ) (test : List Stmt → Bool) (xs : List Stmt) (env : List ℕ)
    → ((ys : List Stmt) → test ys ≡ true → reads_ok p c ys ≡ true) → on_paths gs test xs ≡ true
    → test (onpath env xs) ≡ true
on_each_path p c [] test xs env f h = subst (λ ys. test ys ≡ true) (sym (unguarded p c xs env (f xs h))) h
on_each_path p c (g ∷ gs) test xs env f h =
    at (slice_index env g == 1) refl
    (on_each_path p c gs test (choose g true xs) env f (and_left (on_paths gs test (choose g true xs)) _ h))
    (on_each_path p c gs test (choose g false xs) env f (and_right (on_paths gs test (choose g true xs)) _ h))
  where
    at : (b : Bool) → (slice_index env g == 1) ≡ b → test (onpath env (choose g true xs)) ≡ true
        → test (onpath env (choose g false xs)) ≡ true → test (onpath env xs) ≡ true
    at true e k l = subst (λ ys. test ys ≡ true) (sym (chosen g true xs env e)) k
    at false e k l = subst (λ ys. test ys ≡ true) (sym (chosen g false xs env e)) l
