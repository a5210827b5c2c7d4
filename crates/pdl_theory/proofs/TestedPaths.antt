-- Paths by the values of their guards: each agrees with one that a test goes through.
use Rattle.std.proofs.Common.{◌≡◌, refl, sym, ap, ap₂, ◌∙◌, subst, ℕ, ◌≤◌, ◌<◌, Bool, true, false, ◌&&◌, ◌||◌, not, List, [], ◌∷◌, length, nat_lt, nat_le, ◌==◌, cond, if◌then◌else◌, arith, slice_index, slice_set, ltb-true, ltb-false, leb-false, eq-eqb}
use Rattle.std.proofs.lemmas.Bool.{eqb-true, not-true, false≢true}
use Rattle.pdl_semantics.specs.Flat.{list_all, Stmt, Guard, takes_branch, all_hold}
use Rattle.pdl_semantics.specs.Stages.{onpath}
use Rattle.pdl_theory_turns.specs.Alone.{before, answered_op}
use Rattle.pdl_theory_turns.specs.Scans.{none_of}
use Rattle.pdl_theory_turns.specs.Facts.{DifferIn, is_fetch_of}
use Rattle.pdl_theory_turns.specs.Checks.{vars_of, guard_vars}
use Rattle.pdl_theory_turns.specs.SoundChecks.{unfetched_guards, none_hangs, all_paths, none_between}
use Rattle.pdl_theory_turns.proofs.Writes.{and_left, and_right}
use Rattle.pdl_theory.proofs.Rates.{picks, among, among_append, picked}
use Rattle.pdl_word.proofs.Bools.{by_bool, by_or}

-- one of two things holds where the second does
pub or_more : (b : Bool) {c : Bool} → c ≡ true → (b || c) ≡ true
or_more true k = refl
or_more false k = k

-- PATHS BY THEIR GUARDS

-- a test that all values of these guards pass is passed by those that a path gives them
pub all_picks : (test : List ℕ → Bool) (path : List ℕ) (gs e : List ℕ) → all_paths gs test e ≡ true → test (picks path gs e) ≡ true
all_picks test path [] e h = h
all_picks test path (g ∷ gs) e h =
    at (slice_index path g == 1) (all_picks test path gs (slice_set e g 0) (and_left _ _ h))
    (all_picks test path gs (slice_set e g 1) (and_right (all_paths gs test (slice_set e g 0)) _ h))
  where
    at : (b : Bool) → test (picks path gs (slice_set e g 0)) ≡ true → test (picks path gs (slice_set e g 1)) ≡ true
        → test (picks path gs (slice_set e g (if b then 1 else 0))) ≡ true
    at true i j = j
    at false i j = i

-- two lists of values that agree on guards
abbrev pub Agree : List ℕ → List ℕ → List ℕ → Type 0
Agree gs e f = (g : ℕ) → among g gs ≡ true → (slice_index e g == 1) ≡ (slice_index f g == 1)

-- guards hold alike with two lists of values that agree on their variables
pub taken_agree : (gs : List ℕ) (e f : List ℕ) (hs : List Guard) → Agree gs e f
    → ((g : ℕ) → among g (vars_of hs) ≡ true → among g gs ≡ true) → all_hold hs e ≡ all_hold hs f
taken_agree gs e f [] a i = refl
taken_agree gs e f (h ∷ hs) a i =
    ap₂ (λ b c. b && c) (ap (λ b. if h.first then b else not b) (a h.var (i h.var (ap (λ b. b || among h.var (vars_of hs)) (eq-eqb h.var h.var refl)))))
    (taken_agree gs e f hs a (λ g k. i g (or_more (h.var == g) k)))

-- paths that agree on all guards of some statements take the same of them
pub path_agree : (gs : List ℕ) (e f : List ℕ) (xs : List Stmt) → Agree gs e f
    → ((g : ℕ) → among g (guard_vars xs) ≡ true → among g gs ≡ true) → onpath e xs ≡ onpath f xs
path_agree gs e f [] a i = refl
path_agree gs e f (x ∷ xs) a i =
    ap₂ (λ b l. cond b (record x { guards = [] } ∷ l) l)
    (taken_agree gs e f x.guards a (λ g k. i g (among_append g (vars_of x.guards) (guard_vars xs) ∙ ap (λ b. b || among g (guard_vars xs)) k)))
    (path_agree gs e f xs a (λ g k. i g (among_append g (vars_of x.guards) (guard_vars xs) ∙ or_more (among g (vars_of x.guards)) k)))

-- nothing stands between two stages
pub between_none : (a b : ℕ) (xs : List Stmt) → a ≤ b → none_between a b xs ≡ true → before b xs ≡ before a xs
between_none a b [] low h = refl
between_none a b (x ∷ xs) low h =
    ap₂ (λ c l. cond c (record x { op = answered_op x.op } ∷ l) l) (at (nat_lt x.stage b) refl (nat_lt x.stage a) refl)
    (between_none a b xs low (and_right (not (nat_le a x.stage && nat_lt x.stage b)) _ h))
  where
    at : (c : Bool) → nat_lt x.stage b ≡ c → (d : Bool) → nat_lt x.stage a ≡ d → c ≡ d
    at true e true f = refl
    at false e false f = refl
    at false e true f = absurd (let i : b ≤ x.stage = ltb-false _ _ e in let j : x.stage < a = ltb-true _ _ f in omega arith)
    at true e false f =
        absurd (cc (sym (ap₂ (λ u v. not (u && v)) (le-leb' a x.stage (ltb-false _ _ f)) e) ∙ and_left (not (nat_le a x.stage && nat_lt x.stage b)) _ h))
      where
        le-leb' : (m n : ℕ) → m ≤ n → nat_le m n ≡ true
        le-leb' m n k = by_bool (nat_le m n) (nat_le m n ≡ true) (λ i. i) (λ i. absurd (let j : n < m = leb-false _ _ i in omega arith))

-- each of several tests passes
abbrev pub AllTrue : List Bool → Type 0
AllTrue [] = Unit {0}
AllTrue (b ∷ bs) = (b ≡ true) × AllTrue bs

-- each of some tests holds where all of them do
pub parts : (bs : List Bool) → list_all (λ b. b) bs ≡ true → AllTrue bs
parts [] h = tt
parts (b ∷ bs) h = (and_left b _ h, parts bs (and_right b _ h))

-- a path's guards may be picked
pub agree_picks : (path gs e : List ℕ) → list_all (λ g. nat_lt g (length e)) gs ≡ true → Agree gs (picks path gs e) path
agree_picks path gs e h g k = picked path gs e g (below gs h k) k
  where
    below : (xs : List ℕ) → list_all (λ g. nat_lt g (length e)) xs ≡ true → among g xs ≡ true → g < length e
    below [] i j = absurd (cc j)
    below (x ∷ xs) i j = at (x == g) refl j (below xs (and_right (nat_lt x (length e)) _ i))
      where
        at : (b : Bool) → (x == g) ≡ b → (b || among g xs) ≡ true → (among g xs ≡ true → g < length e) → g < length e
        at true f l go = subst (λ n. n < length e) (eqb-true x g f) (ltb-true _ _ (and_left (nat_lt x (length e)) _ i))
        at false f l go = go l

-- GUARDS THAT A STAGE'S DELAYED READS DON'T DECIDE

taken_other : (ys : List Stmt) (gs : List Guard) (env env' : List ℕ) → DifferIn ys env env'
    → all_hold (unfetched_guards ys gs) env' ≡ all_hold (unfetched_guards ys gs) env
taken_other ys [] env env' d = refl
taken_other ys (g ∷ gs) env env' d = at (none_of (is_fetch_of g.var) ys) refl (taken_other ys gs env env' d)
  where
    at : (b : Bool) → none_of (is_fetch_of g.var) ys ≡ b → all_hold (unfetched_guards ys gs) env' ≡ all_hold (unfetched_guards ys gs) env
        → all_hold (cond b (g ∷ unfetched_guards ys gs) (unfetched_guards ys gs)) env'
        ≡ all_hold (cond b (g ∷ unfetched_guards ys gs) (unfetched_guards ys gs)) env
    at true e r = ap₂ (λ k b. takes_branch g.first k && b) (d g.var e) r
    at false e r = r

all_unfetched : (ys : List Stmt) (gs : List Guard) → list_all (λ g. none_of (is_fetch_of g.var) ys) gs ≡ true → unfetched_guards ys gs ≡ gs
all_unfetched ys [] h = refl
all_unfetched ys (g ∷ gs) h =
    ap₂ (λ b l. cond b (g ∷ l) l) (and_left (none_of (is_fetch_of g.var) ys) _ h) (all_unfetched ys gs (and_right (none_of (is_fetch_of g.var) ys) _ h))

taken_fewer : (ys : List Stmt) (gs : List Guard) (env : List ℕ) → all_hold gs env ≡ true → all_hold (unfetched_guards ys gs) env ≡ true
taken_fewer ys [] env h = refl
taken_fewer ys (g ∷ gs) env h = at (none_of (is_fetch_of g.var) ys) (taken_fewer ys gs env (and_right (takes_branch g.first (slice_index env g.var)) _ h))
  where
    at : (b : Bool) → all_hold (unfetched_guards ys gs) env ≡ true → all_hold (cond b (g ∷ unfetched_guards ys gs) (unfetched_guards ys gs)) env ≡ true
    at true r = ap₂ (λ a b. a && b) (and_left (takes_branch g.first (slice_index env g.var)) _ h) r
    at false r = r

-- guards don't hold together where those among them that no delayed read decides don't
pub not_taken : (ys : List Stmt) (gs : List Guard) (env : List ℕ) → all_hold (unfetched_guards ys gs) env ≡ false → all_hold gs env ≡ false
not_taken ys gs env h = by_bool (all_hold gs env) (all_hold gs env ≡ false) (λ e. absurd (false≢true (sym h ∙ taken_fewer ys gs env e))) (λ e. e)

fewer_among : (g : ℕ) (ys : List Stmt) (gs : List Guard) → among g (vars_of (unfetched_guards ys gs)) ≡ true → among g (vars_of gs) ≡ true
fewer_among g ys [] h = h
fewer_among g ys (x ∷ gs) h = at (none_of (is_fetch_of x.var) ys) h (fewer_among g ys gs)
  where
    at : (b : Bool) → among g (vars_of (cond b (x ∷ unfetched_guards ys gs) (unfetched_guards ys gs))) ≡ true
        → (among g (vars_of (unfetched_guards ys gs)) ≡ true → among g (vars_of gs) ≡ true)
        → among g (vars_of (x ∷ gs)) ≡ true
    at true k go = by_or (x.var == g) _ _ k (λ e. ap (λ b. b || among g (vars_of gs)) e) (λ e. or_more (x.var == g) (go e))
    at false k go = or_more (x.var == g) (go k)

-- values that differ in what some statements read delayed take the same of others that don't hang on that
pub hangs_none : (gs : List ℕ) (path env env' : List ℕ) (ys zs : List Stmt) → Agree gs path env
    → ((g : ℕ) → among g (guard_vars zs) ≡ true → among g gs ≡ true) → DifferIn ys env env'
    → none_hangs path ys zs ≡ true → onpath env' zs ≡ onpath env zs
hangs_none gs path env env' ys [] a i d h = refl
hangs_none gs path env env' ys (z ∷ zs) a i d h =
    ap₂ (λ b l. cond b (record z { guards = [] } ∷ l) l)
    (by_or (list_all (λ g. none_of (is_fetch_of g.var) ys) z.guards)
    (not (all_hold (unfetched_guards ys z.guards) path)) _ (and_left _ (none_hangs path ys zs) h)
    (λ e. sym (ap (λ l. all_hold l env') (all_unfetched ys z.guards e)) ∙ taken_other ys z.guards env env' d
    ∙ ap (λ l. all_hold l env) (all_unfetched ys z.guards e))
    (λ e.
    let off : all_hold (unfetched_guards ys z.guards) env ≡ false =
    sym
    (taken_agree gs path env (unfetched_guards ys z.guards) a
    (λ g k. i g (among_append g (vars_of z.guards) (guard_vars zs) ∙ ap (λ b. b || among g (guard_vars zs)) (fewer_among g ys z.guards k))))
    ∙ not-true _ e in
    not_taken ys z.guards env' (taken_other ys z.guards env env' d ∙ off) ∙ sym (not_taken ys z.guards env off)))
    (hangs_none gs path env env' ys zs a (λ g k. i g (among_append g (vars_of z.guards) (guard_vars zs) ∙ or_more (among g (vars_of z.guards)) k)) d
    (and_right (list_all (λ g. none_of (is_fetch_of g.var) ys) z.guards || not (all_hold (unfetched_guards ys z.guards) path)) _ h))

-- the guards of statements before a stage are among those of all
pub before_among : (n g : ℕ) (xs : List Stmt) → among g (guard_vars (before n xs)) ≡ true → among g (guard_vars xs) ≡ true
before_among n g [] h = h
before_among n g (x ∷ xs) h = at (nat_lt x.stage n) h (before_among n g xs)
  where
    at : (b : Bool)
        → among g (guard_vars (cond b (record x { op = answered_op x.op } ∷ before n xs) (before n xs))) ≡ true
        → (among g (guard_vars (before n xs)) ≡ true → among g (guard_vars xs) ≡ true)
        → among g (guard_vars (x ∷ xs)) ≡ true
    at true k go =
        among_append g (vars_of x.guards) (guard_vars xs)
        ∙ by_or (among g (vars_of x.guards)) (among g (guard_vars (before n xs))) _ (sym (among_append g (vars_of x.guards) (guard_vars (before n xs))) ∙ k)
        (λ e. ap (λ b. b || among g (guard_vars xs)) e) (λ e. or_more (among g (vars_of x.guards)) (go e))
    at false k go = among_append g (vars_of x.guards) (guard_vars xs) ∙ or_more (among g (vars_of x.guards)) (go k)

-- values that are equal for each variable take the same statements
pub all_same : (env env' : List ℕ) (xs : List Stmt) → ((x : ℕ) → slice_index env' x ≡ slice_index env x) → onpath env' xs ≡ onpath env xs
all_same env env' xs f = path_agree (guard_vars xs) env' env xs (λ g k. ap (λ n. n == 1) (f g)) (λ g k. k)
