-- A thread's turn is a run of the statements on its path.
use Rattle.std.proofs.Common.{◌≡◌, ◌≢◌, refl, sym, ap, ap₂, ◌∙◌, subst, ℕ, Bool, true, false, ◌&&◌, not, List, [], ◌∷◌, ◌++◌, Some, ◌==◌, nat_lt, cond, if◌then◌else◌, arith, slice_index, slice_set, ◌||◌}
use Rattle.std.proofs.lemmas.List.{get_or-set_other}
use Rattle.std.proofs.lemmas.Bool.Decides.{eqb_tells}
use Rattle.std.proofs.lemmas.Bool.{eqb-true}
use Rattle.pdl_semantics.specs.Flat.{Op, Bind, CombRead, DelayedRead, Verify, Stmt, Guard, takes_branch, all_hold}
use Rattle.pdl_semantics.specs.Stages.{onpath, in_stage}
use Rattle.pdl_semantics.specs.Machine.{same_args}
use Rattle.pdl_semantics.specs.Sequential.{Run, run_after, run_all}
use Rattle.pdl_theory_turns.specs.Derived.{Work, Around, work_after, do_all, said}
use Rattle.pdl_theory_turns.specs.Alone.{before, answered_op}
use Rattle.pdl_theory_turns.proofs.Writes.{and_left, and_right}
use Rattle.pdl_theory_turns.proofs.Stages.{step}
use Rattle.pdl_theory_turns.specs.Scans.{none_of, binds_var, free_of, against, is_dead, keeps_guards, is_fixed}

-- a variable that is not bound stays
set_stays : (env : List ℕ) (x g v : ℕ) → not (x == g) ≡ true → slice_index (slice_set env x v) g ≡ slice_index env g
set_stays env x g v h = get_or-set_other env x g v 0 apart
  where
    apart : g ≢ x
    apart e = grind (arith, eqb_tells)

run_op_stays : (g : ℕ) (op : Op) (r : Run) → not (binds_var g op) ≡ true → slice_index (run_after op r).env g ≡ slice_index r.env g
run_op_stays g (Bind x e) r h = set_stays r.env x g _ h
run_op_stays g (CombRead x m a) r h = set_stays r.env x g _ h
run_op_stays g (DelayedRead x m a) r h = set_stays r.env x g _ h
run_op_stays g (Verify true args) r h = refl
run_op_stays g (Verify false args) r h = refl
run_op_stays g _ r h = refl

op_stays : (g : ℕ) (o : Around) (op : Op) (w : Work)
    → not (binds_var g op) ≡ true → slice_index (work_after o op w).env g ≡ slice_index w.env g
op_stays g o (Bind x e) w h = set_stays w.env x g _ h
op_stays g o (CombRead x m a) w h = set_stays w.env x g _ h
op_stays g o (Verify last args) w h = at (same_args (said o last args w.env) w.guess)
  where
    at : (b : Bool)
        → slice_index (cond b w (record w { child = Some (said o last args w.env); guess = said o last args w.env; fails = true })).env g ≡ slice_index w.env g
    at true = refl
    at false = refl
op_stays g o _ w h = refl

run_stays : (g : ℕ) (xs : List Stmt) (r : Run) → none_of (binds_var g) xs ≡ true → slice_index (run_all xs r).env g ≡ slice_index r.env g
run_stays g [] r h = refl
run_stays g (x ∷ xs) r h = run_stays g xs _ (and_right _ _ h) ∙ at (all_hold x.guards r.env)
  where
    at : (b : Bool) → slice_index (cond b (run_after x.op r) r).env g ≡ slice_index r.env g
    at true = run_op_stays g x.op r (and_left _ _ h)
    at false = refl

-- statements that don't bind a variable leave its value as it is
pub all_stays : (g : ℕ) (o : Around) (xs : List Stmt) (w : Work)
    → none_of (binds_var g) xs ≡ true → slice_index (do_all o xs w).env g ≡ slice_index w.env g
all_stays g o [] w h = refl
all_stays g o (x ∷ xs) w h = all_stays g o xs _ (and_right _ _ h) ∙ at (all_hold x.guards w.env)
  where
    at : (b : Bool) → slice_index (cond b (work_after o x.op w) w).env g ≡ slice_index w.env g
    at true = op_stays g o x.op w (and_left _ _ h)
    at false = refl

-- where none of the statements passes a test, none of those on a path does
pub none_onpath : (test : Op → Bool) (path : List ℕ) (xs : List Stmt) → none_of test xs ≡ true → none_of test (onpath path xs) ≡ true
none_onpath test path [] h = refl
none_onpath test path (x ∷ xs) h = at (all_hold x.guards path) (none_onpath test path xs (and_right _ _ h))
  where
    at : (b : Bool) → none_of test (onpath path xs) ≡ true → none_of test (cond b (record x { guards = [] } ∷ onpath path xs) (onpath path xs)) ≡ true
    at true k = ap₂ (λ a b. a && b) (and_left (not (test x.op)) _ h) k
    at false k = k

-- guards that contradict one another are never taken
against_none : (g : Guard) (hs : List Guard) (env : List ℕ)
    → against g hs ≡ true → takes_branch g.first (slice_index env g.var) ≡ true → all_hold hs env ≡ false
against_none g [] env h t = absurd (cc h)
against_none g (k ∷ ks) env h t = at ((g.var == k.var) && (if g.first then not k.first else k.first)) refl h (against_none g ks env)
  where
    opposite : (a b : Bool) (n : ℕ) → (if a then not b else b) ≡ true → takes_branch a n ≡ true → takes_branch b n ≡ false
    opposite true true n e f = absurd (cc e)
    opposite true false n e f = ap not f
    opposite false true n e f = flip (n == 1) f
      where
        flip : (b : Bool) → not b ≡ true → b ≡ false
        flip true i = absurd (cc i)
        flip false i = refl
    opposite false false n e f = absurd (cc e)

    none : (b c : Bool) → c ≡ false → (b && c) ≡ false
    none true c e = e
    none false c e = refl

    at : (b : Bool) → ((g.var == k.var) && (if g.first then not k.first else k.first)) ≡ b → (b || against g ks) ≡ true
        → (against g ks ≡ true → takes_branch g.first (slice_index env g.var) ≡ true → all_hold ks env ≡ false)
        → (takes_branch k.first (slice_index env k.var) && all_hold ks env) ≡ false
    at true e i f =
        let same : g.var ≡ k.var = eqb-true _ _ (and_left (g.var == k.var) _ e) in
        ap (λ b. b && all_hold ks env)
        (opposite g.first k.first (slice_index env k.var) (and_right (g.var == k.var) _ e)
        (subst (λ n. takes_branch g.first (slice_index env n) ≡ true) same t))
    at false e i f = none _ _ (f i t)

-- guards that contradict one another never hold
pub dead_none : (gs : List Guard) (env : List ℕ) → is_dead gs ≡ true → all_hold gs env ≡ false
dead_none [] env h = absurd (cc h)
dead_none (g ∷ gs) env h = at (against g gs) refl h (takes_branch g.first (slice_index env g.var)) refl (dead_none gs env)
  where
    at : (b : Bool) → against g gs ≡ b → (b || is_dead gs) ≡ true → (t : Bool)
        → takes_branch g.first (slice_index env g.var) ≡ t → (is_dead gs ≡ true → all_hold gs env ≡ false)
        → (takes_branch g.first (slice_index env g.var) && all_hold gs env) ≡ false
    at b e i false k f = ap (λ t. t && all_hold gs env) k
    at true e i true k f = ap (λ t. t && all_hold gs env) k ∙ against_none g gs env e k
    at false e i true k f = ap (λ t. t && all_hold gs env) k ∙ f i

-- the tests of guards that stay
free_stays : (gs : List Guard) (xs : List Stmt) (env path : List ℕ)
    → free_of gs xs ≡ true → ((g : ℕ) → none_of (binds_var g) xs ≡ true → slice_index path g ≡ slice_index env g)
    → all_hold gs env ≡ all_hold gs path
free_stays [] xs env path h f = refl
free_stays (g ∷ gs) xs env path h f =
    ap₂ (λ n b. takes_branch g.first n && b) (sym (f g.var (and_left _ _ h))) (free_stays gs xs env path (and_right _ _ h) f)

-- guards that statements leave alone hold with values just where they hold on a path that agrees with these
pub taken_stays : (gs : List Guard) (xs : List Stmt) (env path : List ℕ)
    → keeps_guards gs xs ≡ true → ((g : ℕ) → none_of (binds_var g) xs ≡ true → slice_index path g ≡ slice_index env g)
    → all_hold gs env ≡ all_hold gs path
taken_stays gs xs env path h f = at (is_dead gs) refl h
  where
    at : (b : Bool) → is_dead gs ≡ b → (b || free_of gs xs) ≡ true → all_hold gs env ≡ all_hold gs path
    at true e k = dead_none gs env e ∙ sym (dead_none gs path e)
    at false e k = free_stays gs xs env path k f

-- a run is the run of its path, which is told by the values in the end
pub run_path : (path : List ℕ) (xs : List Stmt) (r : Run)
    → is_fixed xs ≡ true → (run_all xs r).env ≡ path → run_all xs r ≡ run_all (onpath path xs) r
run_path path [] r h e = refl
run_path path (x ∷ xs) r h e =
    run_path path xs (if all_hold x.guards r.env then run_after x.op r else r) (and_right _ _ h) e
    ∙ at (all_hold x.guards r.env) (all_hold x.guards path)
    (taken_stays x.guards (x ∷ xs) r.env path (and_left _ _ h) (λ g k. ap (λ l. slice_index l g) (sym e) ∙ run_stays g (x ∷ xs) r k))
  where
    at : (b c : Bool) → b ≡ c
        → run_all (onpath path xs) (cond b (run_after x.op r) r) ≡ run_all (cond c (record x { guards = [] } ∷ onpath path xs) (onpath path xs)) r
    at true true i = refl
    at true false i = absurd (cc i)
    at false true i = absurd (cc i)
    at false false i = refl

-- each statement is carried out just where the path takes it
abbrev pub Fixed : List ℕ → Around → List Stmt → Work → Type 0
Fixed path o [] w = Unit {0}
Fixed path o (x ∷ xs) w = (all_hold x.guards w.env ≡ all_hold x.guards path) × Fixed path o xs (step o x w)

step_path : (path : List ℕ) (o : Around) (x : Stmt) (xs : List Stmt) (w : Work)
    → all_hold x.guards w.env ≡ all_hold x.guards path
    → do_all o (onpath path xs) (step o x w) ≡ do_all o (onpath path (x ∷ xs)) w
step_path path o x xs w e = at (all_hold x.guards w.env) (all_hold x.guards path) e
  where
    at : (b c : Bool) → b ≡ c
        → do_all o (onpath path xs) (cond b (work_after o x.op w) w) ≡ do_all o (cond c (record x { guards = [] } ∷ onpath path xs) (onpath path xs)) w
    at true true i = refl
    at true false i = absurd (cc i)
    at false true i = absurd (cc i)
    at false false i = refl

-- the guards of statements hold as on the path, where after them its values agree on all guards that no later statement binds
pub fixed_path_to : (path : List ℕ) (o : Around) (xs ys : List Stmt) (w : Work)
    → is_fixed (xs ++ ys) ≡ true
    → ((g : ℕ) → none_of (binds_var g) ys ≡ true → slice_index (do_all o (onpath path xs) w).env g ≡ slice_index path g)
    → Fixed path o xs w
fixed_path_to path o [] ys w h e = tt
fixed_path_to path o (x ∷ xs) ys w h e =
    let same : all_hold x.guards w.env ≡ all_hold x.guards path =
    taken_stays x.guards ((x ∷ xs) ++ ys) w.env path (and_left _ _ h)
    (λ g k. sym (e g (none_behind (binds_var g) (x ∷ xs) ys k))
    ∙ all_stays g o (onpath path (x ∷ xs)) w (none_onpath (binds_var g) path (x ∷ xs) (none_front (binds_var g) (x ∷ xs) ys k))) in
    (same, fixed_path_to path o xs ys (step o x w) (and_right _ _ h) (λ g k. ap (λ (v : Work). slice_index v.env g) (step_path path o x xs w same) ∙ e g k))
  where
    none_behind : (test : Op → Bool) (us vs : List Stmt) → none_of test (us ++ vs) ≡ true → none_of test vs ≡ true
    none_behind test [] vs k = k
    none_behind test (u ∷ us) vs k = none_behind test us vs (and_right _ _ k)

    none_front : (test : Op → Bool) (us vs : List Stmt) → none_of test (us ++ vs) ≡ true → none_of test us ≡ true
    none_front test [] vs k = refl
    none_front test (u ∷ us) vs k = ap₂ (λ a b. a && b) (and_left (not (test u.op)) _ k) (none_front test us vs (and_right _ _ k))

-- where a path fixes which statements are carried out, they do what those on the path do
pub fixed_all : (path : List ℕ) (o : Around) (xs : List Stmt) (w : Work) → Fixed path o xs w → do_all o xs w ≡ do_all o (onpath path xs) w
fixed_all path o [] w f = refl
fixed_all path o (x ∷ xs) w f = fixed_all path o xs (step o x w) f.1 ∙ step_path path o x xs w f.0

-- the path of a stage's and of earlier stages' statements
pub before_path : (path : List ℕ) (s : ℕ) (xs : List Stmt) → before s (onpath path xs) ≡ onpath path (before s xs)
before_path path s [] = refl
before_path path s (x ∷ xs) = at (all_hold x.guards path) refl (nat_lt x.stage s) refl (before_path path s xs)
  where
    at : (b : Bool) → all_hold x.guards path ≡ b → (c : Bool) → nat_lt x.stage s ≡ c → before s (onpath path xs) ≡ onpath path (before s xs)
        → before s (cond b (record x { guards = [] } ∷ onpath path xs) (onpath path xs))
        ≡ onpath path (cond c (record x { op = answered_op x.op } ∷ before s xs) (before s xs))
    at true e true f h =
        ap (λ t. cond t (record { stage = x.stage; guards = []; op = answered_op x.op } ∷ before s (onpath path xs)) (before s (onpath path xs))) f
        ∙ ap (λ l. record { stage = x.stage; guards = []; op = answered_op x.op } ∷ l) h
        ∙ sym (ap (λ t. cond t (record { stage = x.stage; guards = []; op = answered_op x.op } ∷ onpath path (before s xs)) (onpath path (before s xs))) e)
    at true e false f h =
        ap (λ t. cond t (record { stage = x.stage; guards = []; op = answered_op x.op } ∷ before s (onpath path xs)) (before s (onpath path xs))) f ∙ h
    at false e true f h =
        h ∙ sym (ap (λ t. cond t (record { stage = x.stage; guards = []; op = answered_op x.op } ∷ onpath path (before s xs)) (onpath path (before s xs))) e)
    at false e false f h = h

-- the statements of a stage, of those on a path, are those on the path, of the stage
pub stage_path : (path : List ℕ) (s : ℕ) (xs : List Stmt) → in_stage s (onpath path xs) ≡ onpath path (in_stage s xs)
stage_path path s [] = refl
stage_path path s (x ∷ xs) = at (all_hold x.guards path) refl (x.stage == s) refl (stage_path path s xs)
  where
    at : (b : Bool) → all_hold x.guards path ≡ b → (c : Bool) → (x.stage == s) ≡ c → in_stage s (onpath path xs) ≡ onpath path (in_stage s xs)
        → in_stage s (cond b (record x { guards = [] } ∷ onpath path xs) (onpath path xs)) ≡ onpath path (cond c (x ∷ in_stage s xs) (in_stage s xs))
    at true e true f h =
        ap (λ t. cond t (record x { guards = [] } ∷ in_stage s (onpath path xs)) (in_stage s (onpath path xs))) f ∙ ap (λ l. record x { guards = [] } ∷ l) h
        ∙ sym (ap (λ t. cond t (record x { guards = [] } ∷ onpath path (in_stage s xs)) (onpath path (in_stage s xs))) e)
    at true e false f h = ap (λ t. cond t (record x { guards = [] } ∷ in_stage s (onpath path xs)) (in_stage s (onpath path xs))) f ∙ h
    at false e true f h = h ∙ sym (ap (λ t. cond t (record x { guards = [] } ∷ onpath path (in_stage s xs)) (onpath path (in_stage s xs))) e)
    at false e false f h = h
