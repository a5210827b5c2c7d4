-- The facts that the simulation takes follow from the facts as the rules say them.
use Rattle.std.proofs.Common.{◌≡◌, refl, sym, ap, ap₂, ◌∙◌, subst, ℕ, suc, ◌≤◌, ◌<◌, ◌⊎◌, inl, inr, Bool, true, false, ◌&&◌, ◌||◌, not, List, [], ◌∷◌, ◌++◌, length, Option, Some, None, ◌==◌, nat_lt, nat_le, cond, arith, slice_index, ltb-true, ltb-false, lt-ltb, leb-true, leb-false, le_refl, le_of_lt}
use Rattle.std.proofs.lemmas.List.{get_or_past}
use Rattle.std.proofs.lemmas.Bool.{eqb-true, eqb-false}
use Rattle.pdl_semantics.specs.Flat.{Pipe, Stage, Branch, Next, Ends, Goes, Forks, Op, Bind, CombRead, DelayedRead, Guard, Stmt, takes_branch, all_hold}
use Rattle.pdl_semantics.specs.Stages.{onpath, in_stage, last_stage, stage_at, goes_to}
use Rattle.pdl_semantics.specs.Sound.{stages_before, stages_from, is_fetch}
use Rattle.pdl_theory_turns.specs.Scans.{none_of, binds_var}
use Rattle.pdl_theory_turns.proofs.Nested.{came_from_way, visits_same, visits_fork, trunk_within}
use Rattle.pdl_theory_simulation.proofs.FlowFacts.{Within, Flows, FlowRules, AllOf, DefinedBy, SameBut, binds_guard, visits_stage, on_side, next_of, stage_or, sets, is_fetch_of}
use Rattle.pdl_theory_turns.proofs.Paths.{stage_path, none_onpath}

-- LISTS

no_stage : (xs : List Stmt) → stages_before 0 xs ≡ []
no_stage [] = refl
no_stage (x ∷ xs) = ap (λ b. cond b (x ∷ stages_before 0 xs) (stages_before 0 xs)) (never x.stage) ∙ no_stage xs
  where
    never : (n : ℕ) → nat_lt n 0 ≡ false
    never n = at (nat_lt n 0) refl
      where
        at : (b : Bool) → nat_lt n 0 ≡ b → nat_lt n 0 ≡ false
        at true e = absurd (let i = ltb-true _ _ e in omega arith)
        at false e = e

all_stages : (k : ℕ) (xs : List Stmt) → AllOf (λ z. z.stage < k) xs → stages_before k xs ≡ xs
all_stages k [] h = refl
all_stages k (x ∷ xs) h = ap₂ (λ b l. cond b (x ∷ l) l) (lt-ltb _ _ h.0) (all_stages k xs h.1)

-- a path's statements up to stage s, where none stands between s and q
up_to : (path : List ℕ) (s q : ℕ) (xs : List Stmt)
    → s < q → AllOf (λ z. all_hold z.guards path ≡ true → (z.stage ≤ s) ⊎ (q ≤ z.stage)) xs
    → onpath path (stages_before q xs) ≡ onpath path (stages_before (suc s) xs)
up_to path s q [] low h = refl
up_to path s q (x ∷ xs) low h = at (nat_lt x.stage q) refl (nat_lt x.stage (suc s)) refl (up_to path s q xs low h.1)
  where
    skip : (l : List Stmt) → all_hold x.guards path ≡ false → onpath path (x ∷ l) ≡ onpath path l
    skip l e = ap (λ b. cond b (record x { guards = [] } ∷ onpath path l) (onpath path l)) e

    between : x.stage < q → suc s ≤ x.stage → all_hold x.guards path ≡ false
    between i j = by (all_hold x.guards path) refl
      where
        no : (x.stage ≤ s) ⊎ (q ≤ x.stage) → ⊥
        no (inl k) = absurd (omega arith)
        no (inr k) = absurd (omega arith)

        by : (b : Bool) → all_hold x.guards path ≡ b → all_hold x.guards path ≡ false
        by true e = absurd (no (h.0 e))
        by false e = e

    at : (b : Bool) → nat_lt x.stage q ≡ b → (c : Bool) → nat_lt x.stage (suc s) ≡ c → onpath path (stages_before q xs) ≡ onpath path (stages_before (suc s) xs)
        → onpath path (cond b (x ∷ stages_before q xs) (stages_before q xs)) ≡ onpath path (cond c (x ∷ stages_before (suc s) xs) (stages_before (suc s) xs))
    at true e true f r = ap (λ l. cond (all_hold x.guards path) (record x { guards = [] } ∷ l) l) r
    at true e false f r = skip (stages_before q xs) (between (ltb-true _ _ e) (ltb-false _ _ f)) ∙ r
    at false e true f r = absurd (let i = ltb-false _ _ e in let j : x.stage < suc s = ltb-true _ _ f in omega arith)
    at false e false f r = r

-- the statements before stage s of those on a path are those on the path of the ones before s
pub before_path : (path : List ℕ) (s : ℕ) (xs : List Stmt) → stages_before s (onpath path xs) ≡ onpath path (stages_before s xs)
before_path path s [] = refl
before_path path s (x ∷ xs) = at (all_hold x.guards path) refl (nat_lt x.stage s) refl (before_path path s xs)
  where
    at : (b : Bool) → all_hold x.guards path ≡ b → (c : Bool) → nat_lt x.stage s ≡ c → stages_before s (onpath path xs) ≡ onpath path (stages_before s xs)
        → stages_before s (cond b (record x { guards = [] } ∷ onpath path xs) (onpath path xs))
        ≡ onpath path (cond c (x ∷ stages_before s xs) (stages_before s xs))
    at true e true f r =
        ap₂ (λ t l. cond t (record x { guards = [] } ∷ l) l) f r
        ∙ sym (ap (λ t. cond t (record x { guards = [] } ∷ onpath path (stages_before s xs)) (onpath path (stages_before s xs))) e)
    at true e false f r = ap₂ (λ t l. cond t (record x { guards = [] } ∷ l) l) f r
    at false e true f r = r ∙ sym (ap (λ t. cond t (record x { guards = [] } ∷ onpath path (stages_before s xs)) (onpath path (stages_before s xs))) e)
    at false e false f r = r

-- the statements from stage s on of those on a path are those on the path of the ones from s on
pub from_path : (path : List ℕ) (s : ℕ) (xs : List Stmt) → stages_from s (onpath path xs) ≡ onpath path (stages_from s xs)
from_path path s [] = refl
from_path path s (x ∷ xs) = at (all_hold x.guards path) refl (nat_le s x.stage) refl (from_path path s xs)
  where
    at : (b : Bool) → all_hold x.guards path ≡ b → (c : Bool) → nat_le s x.stage ≡ c → stages_from s (onpath path xs) ≡ onpath path (stages_from s xs)
        → stages_from s (cond b (record x { guards = [] } ∷ onpath path xs) (onpath path xs)) ≡ onpath path (cond c (x ∷ stages_from s xs) (stages_from s xs))
    at true e true f r =
        ap₂ (λ t l. cond t (record x { guards = [] } ∷ l) l) f r
        ∙ sym (ap (λ t. cond t (record x { guards = [] } ∷ onpath path (stages_from s xs)) (onpath path (stages_from s xs))) e)
    at true e false f r = ap₂ (λ t l. cond t (record x { guards = [] } ∷ l) l) f r
    at false e true f r = r ∙ sym (ap (λ t. cond t (record x { guards = [] } ∷ onpath path (stages_from s xs)) (onpath path (stages_from s xs))) e)
    at false e false f r = r

before_append : (s : ℕ) (xs ys : List Stmt) → stages_before s (xs ++ ys) ≡ stages_before s xs ++ stages_before s ys
before_append s [] ys = refl
before_append s (x ∷ xs) ys = at (nat_lt x.stage s) (before_append s xs ys)
  where
    at : (b : Bool) → stages_before s (xs ++ ys) ≡ stages_before s xs ++ stages_before s ys
        → cond b (x ∷ stages_before s (xs ++ ys)) (stages_before s (xs ++ ys)) ≡ cond b (x ∷ stages_before s xs) (stages_before s xs) ++ stages_before s ys
    at true r = ap (λ l. x ∷ l) r
    at false r = r

before_next : (s : ℕ) (xs : List Stmt) → stages_before (suc s) (stages_before s xs) ≡ stages_before s xs
before_next s [] = refl
before_next s (x ∷ xs) = at (nat_lt x.stage s) refl (before_next s xs)
  where
    at : (b : Bool) → nat_lt x.stage s ≡ b → stages_before (suc s) (stages_before s xs) ≡ stages_before s xs
        → stages_before (suc s) (cond b (x ∷ stages_before s xs) (stages_before s xs)) ≡ cond b (x ∷ stages_before s xs) (stages_before s xs)
    at true e r = ap₂ (λ t l. cond t (x ∷ l) l) (lt-ltb x.stage (suc s) (let i = ltb-true _ _ e in omega arith)) r
    at false e r = r

from_next : (s : ℕ) (xs : List Stmt) → stages_before (suc s) (stages_from s xs) ≡ in_stage s xs
from_next s [] = refl
from_next s (x ∷ xs) = at (nat_le s x.stage) refl (x.stage == s) refl (from_next s xs)
  where
    not_less : suc s ≤ x.stage → nat_lt x.stage (suc s) ≡ false
    not_less h = by (nat_lt x.stage (suc s)) refl
      where
        by : (c : Bool) → nat_lt x.stage (suc s) ≡ c → nat_lt x.stage (suc s) ≡ false
        by true e = absurd (let i = ltb-true _ _ e in omega arith)
        by false e = e

    at : (b : Bool) → nat_le s x.stage ≡ b → (c : Bool) → (x.stage == s) ≡ c → stages_before (suc s) (stages_from s xs) ≡ in_stage s xs
        → stages_before (suc s) (cond b (x ∷ stages_from s xs) (stages_from s xs)) ≡ cond c (x ∷ in_stage s xs) (in_stage s xs)
    at true e true f r = ap₂ (λ t l. cond t (x ∷ l) l) (lt-ltb x.stage (suc s) (let i = eqb-true _ _ f in omega arith)) r
    at true e false f r = ap₂ (λ t l. cond t (x ∷ l) l) (not_less (let i = leb-true _ _ e in let j = eqb-false _ _ f in omega arith)) r
    at false e true f r = absurd (let i = leb-false _ _ e in let j = eqb-true _ _ f in omega arith)
    at false e false f r = r

-- GUARDS

none_in : (test : Op → Bool) (s : ℕ) (xs : List Stmt)
    → AllOf (λ y. test y.op ≡ true → y.stage ≡ s → ⊥) xs → none_of test (in_stage s xs) ≡ true
none_in test s [] h = refl
none_in test s (x ∷ xs) h = at (x.stage == s) refl (none_in test s xs h.1)
  where
    at : (b : Bool) → (x.stage == s) ≡ b → none_of test (in_stage s xs) ≡ true → none_of test (cond b (x ∷ in_stage s xs) (in_stage s xs)) ≡ true
    at true e r = ap₂ (λ a b. not a && b) (off (test x.op) refl) r
      where
        off : (t : Bool) → test x.op ≡ t → test x.op ≡ false
        off true f = absurd (h.0 f (eqb-true _ _ e))
        off false f = f
    at false e r = r

-- what follows from a property holds of each of these statements, where the property does
pub all_map : {A B : Stmt → Type 0} → ((x : Stmt) → A x → B x) → (xs : List Stmt) → AllOf A xs → AllOf B xs
all_map f [] h = tt
all_map f (x ∷ xs) h = (f x h.0, all_map f xs h.1)

all_both : {A B C : Stmt → Type 0} → ((x : Stmt) → A x → B x → C x) → (xs : List Stmt) → AllOf A xs → AllOf B xs → AllOf C xs
all_both f [] h k = tt
all_both f (x ∷ xs) h k = (f x h.0 k.0, all_both f xs h.1 k.1)

set_binds : (g : ℕ) (op : Op) → sets g op ≡ true → binds_var g op ≡ true
set_binds g (Bind x e) h = h
set_binds g (CombRead x m a) h = h
set_binds g _ h = absurd (cc h)

fetch_binds : (g : ℕ) (op : Op) → is_fetch_of g op ≡ true → (binds_var g op ≡ true) × (is_fetch op ≡ true)
fetch_binds g (DelayedRead x m a) h = (h, refl)
fetch_binds g _ h = absurd (cc h)

-- guards whose variables agree
taken_agree : (env env' : List ℕ) (gs : List Guard)
    → ((g : ℕ) → ((op : Op) → binds_var g op ≡ true → binds_guard op gs ≡ true) → slice_index env g ≡ slice_index env' g)
    → all_hold gs env ≡ all_hold gs env'
taken_agree env env' [] f = refl
taken_agree env env' (g ∷ gs) f =
    ap₂ (λ v b. takes_branch g.first v && b) (f g.var (λ op h. ap (λ b. b || binds_guard op gs) h))
    (taken_agree env env' gs (λ k i. f k (λ op h. ap (λ b. binds_var g.var op || b) (i op h) ∙ or_true (binds_var g.var op))))
  where
    or_true : (b : Bool) → (b || true) ≡ true
    or_true true = refl
    or_true false = refl

same_bools : (a b : Bool) → (a ≡ true → a ≡ b) → (b ≡ true → a ≡ b) → a ≡ b
same_bools true b f g = f refl
same_bools false true f g = g refl
same_bools false false f g = refl

same_before : (env env' : List ℕ) (s : ℕ) (xs : List Stmt)
    → AllOf (λ z. z.stage < s → all_hold z.guards env ≡ all_hold z.guards env') xs
    → onpath env (stages_before s xs) ≡ onpath env' (stages_before s xs)
same_before env env' s [] h = refl
same_before env env' s (x ∷ xs) h = at (nat_lt x.stage s) refl (same_before env env' s xs h.1)
  where
    at : (b : Bool) → nat_lt x.stage s ≡ b → onpath env (stages_before s xs) ≡ onpath env' (stages_before s xs)
        → onpath env (cond b (x ∷ stages_before s xs) (stages_before s xs)) ≡ onpath env' (cond b (x ∷ stages_before s xs) (stages_before s xs))
    at true e r = ap₂ (λ b l. cond b (record x { guards = [] } ∷ l) l) (h.0 (ltb-true _ _ e)) r
    at false e r = r

module _ (p : Pipe) (rules : FlowRules p) where
  steady_rule : (s : ℕ) (env env' : List ℕ) → visits_stage p env s ≡ true → SameBut sets (onpath env' (in_stage s p.stmts)) env env'
      → (onpath env (stages_before s p.stmts) ≡ onpath env' (stages_before s p.stmts)) × (visits_stage p env s ≡ visits_stage p env' s)
  steady_rule s env env' b h = (
    same_before env env' s p.stmts
        (all_both
        (λ z f g. λ low. same_bools (all_hold z.guards env) (all_hold z.guards env') (λ e. agree z low (f e)) (λ e. agree z low (g e))) p.stmts
        (rules.guards_late env)
        (rules.guards_late env')),
    visits_same p s env env'
        (λ x c i. let u = rules.graph.fork_below x c s i in fork_same x u.1 (visits_fork p env x c s i u.0 b) (stage_at p x.fork).next refl),
  )
    where
      keeps : (g : ℕ) → AllOf (λ y. binds_var g y.op ≡ true → y.stage ≡ s → ⊥) p.stmts → slice_index env g ≡ slice_index env' g
      keeps g k = h g (none_onpath (sets g) env' (in_stage s p.stmts) (none_in (sets g) s p.stmts (all_map (λ y f. λ e. f (set_binds g y.op e)) p.stmts k)))

      agree : (z : Stmt) → z.stage < s
          → AllOf (λ y. binds_guard y.op z.guards ≡ true → DefinedBy y.stage y.op z.stage) p.stmts
          → all_hold z.guards env ≡ all_hold z.guards env'
      agree z low k = taken_agree env env' z.guards (λ g i. keeps g (all_map (λ y f. λ e j. let d = (f (i y.op e)).0 in absurd (omega arith)) p.stmts k))

      -- the fork around it stands before it
      fork_same : (x : Branch) → x.fork < s → visits_stage p env x.fork ≡ true → (n : Next) → (stage_at p x.fork).next ≡ n
          → on_side n x.first env ≡ on_side n x.first env'
      fork_same x e on Ends f = refl
      fork_same x e on (Goes to) f = refl
      fork_same x e on (Forks v a c) f =
          ap (takes_branch x.first)
          (keeps v
          (all_map
          (λ y g. λ i j. let d = (g i).0 in absurd (omega arith)) p.stmts
          (rules.forks_late env x.fork v a c on f)))

  settled_rule : (s : ℕ) (env env' : List ℕ) → s < length p.stages → visits_stage p env' s ≡ true
      → SameBut is_fetch_of (onpath env' (in_stage s p.stmts)) env env'
      → (onpath env (stages_before (next_of p s env') p.stmts) ≡ onpath env' (stages_before (next_of p s env') p.stmts))
      × (visits_stage p env (next_of p s env') ≡ visits_stage p env' (next_of p s env'))
  settled_rule s env env' low b h = (
    same_before env env' (next_of p s env') p.stmts
        (all_both (λ z f g. λ i. same_bools (all_hold z.guards env) (all_hold z.guards env') (f i) (g i)) p.stmts one two),
    next_branch (goes_to (stage_at p s).next env') refl,
  )
    where
      keeps : (g : ℕ) → AllOf (λ y. binds_var g y.op ≡ true → is_fetch y.op ≡ true → y.stage ≡ s → ⊥) p.stmts → slice_index env g ≡ slice_index env' g
      keeps g k =
          h g
          (none_onpath (is_fetch_of g) env' (in_stage s p.stmts)
          (none_in (is_fetch_of g) s p.stmts (all_map (λ y f. λ e. f (fetch_binds g y.op e).0 (fetch_binds g y.op e).1) p.stmts k)))

      agree : (z : Stmt) (path : List ℕ) → next_of p s path ≡ next_of p s env' → z.stage < next_of p s env'
          → AllOf (λ y. binds_guard y.op z.guards ≡ true → DefinedBy y.stage y.op z.stage) p.stmts
          → (z.stage ≤ s) ⊎ (next_of p s path ≤ z.stage) → all_hold z.guards env ≡ all_hold z.guards env'
      agree z path same i k w = taken_agree env env' z.guards (λ g j. keeps g (all_map (λ y f. λ e u v. absurd (apart y ((f (j y.op e)).1 u) v w)) p.stmts k))
        where
          apart : (y : Stmt) → y.stage < z.stage → y.stage ≡ s → (z.stage ≤ s) ⊎ (next_of p s path ≤ z.stage) → ⊥
          apart y a c (inl d) = absurd (omega arith)
          apart y a c (inr d) = absurd (omega arith)

      -- a fork's guard isn't read in the fork's stage or after it
      guard_same : (f v a c : ℕ) → f ≤ s → visits_stage p env' f ≡ true → (stage_at p f).next ≡ Forks v a c → slice_index env v ≡ slice_index env' v
      guard_same f v a c i on e = keeps v (all_map (λ y g. λ j u w. let d = (g j).1 u in absurd (omega arith)) p.stmts (rules.forks_late env' f v a c on e))

      fork_same : (f : ℕ) (first : Bool) → f ≤ s → visits_stage p env' f ≡ true → (n : Next) → (stage_at p f).next ≡ n
          → on_side n first env ≡ on_side n first env'
      fork_same f first i on Ends e = refl
      fork_same f first i on (Goes to) e = refl
      fork_same f first i on (Forks v a c) e = ap (takes_branch first) (guard_same f v a c i on e)

      branches_at : (q : ℕ) → ((x : Branch) (c : List Branch) → Within p (x ∷ c) q → (x.fork ≤ s) × (visits_stage p env' x.fork ≡ true))
          → visits_stage p env q ≡ visits_stage p env' q
      branches_at q low_forks =
          visits_same p q env env' (λ x c i. let u = low_forks x c i in fork_same x.fork x.first u.0 u.1 (stage_at p x.fork).next refl)

      -- the forks around stage s
      around : (x : Branch) (c : List Branch) → Within p (x ∷ c) s → (x.fork ≤ s) × (visits_stage p env' x.fork ≡ true)
      around x c h = let u = rules.graph.fork_below x c s h in (le_of_lt u.1, visits_fork p env' x c s h u.0 b)

      branch_here : visits_stage p env s ≡ visits_stage p env' s
      branch_here = branches_at s around

      next_same : (n : Next) → (stage_at p s).next ≡ n → next_of p s env ≡ next_of p s env'
      next_same Ends e = ap (λ m. stage_or (length p.stages) (goes_to m env)) e ∙ sym (ap (λ m. stage_or (length p.stages) (goes_to m env')) e)
      next_same (Goes to) e = ap (λ m. stage_or (length p.stages) (goes_to m env)) e ∙ sym (ap (λ m. stage_or (length p.stages) (goes_to m env')) e)
      next_same (Forks v a c) e =
          ap (λ m. stage_or (length p.stages) (goes_to m env)) e
          ∙ ap (λ w. cond (w == 1) a c) (guard_same s v a c (le_refl s) b e)
          ∙ sym (ap (λ m. stage_or (length p.stages) (goes_to m env')) e)

      one : AllOf (λ z. z.stage < next_of p s env' → all_hold z.guards env ≡ true → all_hold z.guards env ≡ all_hold z.guards env') p.stmts
      one =
          all_both (λ z k l. λ i e. agree z env (next_same (stage_at p s).next refl) i (k e) (l e)) p.stmts (rules.guards_late env)
          (rules.on_stages env s low (branch_here ∙ b))

      two : AllOf (λ z. z.stage < next_of p s env' → all_hold z.guards env' ≡ true → all_hold z.guards env ≡ all_hold z.guards env') p.stmts
      two = all_both (λ z k l. λ i e. agree z env' refl i (k e) (l e)) p.stmts (rules.guards_late env') (rules.on_stages env' s low b)

      next_branch : (r : Option ℕ) → goes_to (stage_at p s).next env' ≡ r → visits_stage p env (next_of p s env') ≡ visits_stage p env' (next_of p s env')
      next_branch None e =
          subst (λ n. visits_stage p env n ≡ visits_stage p env' n) (sym (ap (stage_or (length p.stages)) e))
          (branches_at (length p.stages)
          (λ x c i. trunk_within p x c (length p.stages)
          (ap (λ (y : Stage). y.branches) (get_or_past p.stages (length p.stages) last_stage (le_refl (length p.stages)))) i))
      next_branch (Some q) e =
          subst (λ n. visits_stage p env n ≡ visits_stage p env' n) (sym (ap (stage_or (length p.stages)) e))
          (branches_at q (λ x c i. from x c (came_from_way p x c s q (rules.graph.way s q (env', e, low)) i)))
        where
          from : (x : Branch) (c : List Branch) → (x.fork ≡ s) ⊎ Within p (x ∷ c) s → (x.fork ≤ s) × (visits_stage p env' x.fork ≡ true)
          from x c (inl j) = ((let e : x.fork ≤ s = omega arith in e), subst (λ n. visits_stage p env' n ≡ true) (sym j) b)
          from x c (inr j) = around x c j

  -- the statements up to the next stage
  next_rule : (path : List ℕ) (s : ℕ) → s < length p.stages → visits_stage p path s ≡ true
      → onpath path (stages_before (next_of p s path) p.stmts) ≡ onpath path (stages_before s p.stmts) ++ onpath path (in_stage s p.stmts)
  next_rule path s low b = up_to path s (next_of p s path) p.stmts (up (goes_to (stage_at p s).next path) refl) (rules.on_stages path s low b) ∙ pieces
    where
      whole : onpath path p.stmts ≡ stages_before s (onpath path p.stmts) ++ stages_from s (onpath path p.stmts)
      whole = rules.order path s ∙ ap₂ (λ a b. a ++ b) (sym (before_path path s p.stmts)) (sym (from_path path s p.stmts))

      pieces : onpath path (stages_before (suc s) p.stmts) ≡ onpath path (stages_before s p.stmts) ++ onpath path (in_stage s p.stmts)
      pieces =
          sym (before_path path (suc s) p.stmts) ∙ ap (stages_before (suc s)) whole
          ∙ before_append (suc s) (stages_before s (onpath path p.stmts)) (stages_from s (onpath path p.stmts))
          ∙ ap₂ (λ a b. a ++ b) (before_next s (onpath path p.stmts) ∙ before_path path s p.stmts)
          (from_next s (onpath path p.stmts) ∙ stage_path path s p.stmts)

      up : (r : Option ℕ) → goes_to (stage_at p s).next path ≡ r → s < next_of p s path
      up None e = subst (λ n. s < n) (sym (ap (stage_or (length p.stages)) e)) low
      up (Some q) e = subst (λ n. s < n) (sym (ap (stage_or (length p.stages)) e)) (rules.graph.up s q (path, e, low)).0

  -- the facts in the form in which the rules give them are those that the simulation takes
  pub flows_of_rules : Flows p
  flows_of_rules =
      record {
        graph = rules.graph;
        branches = rules.branches;
        reserves = rules.reserves;
        releases = rules.releases;
        trunk_reserve = rules.trunk_reserve;
        trunk_commit = rules.trunk_commit;
        verifies = rules.verifies;
        fixed_guards = rules.fixed_guards;
        first_piece = λ path. ap (onpath path) (no_stage p.stmts);
        next_piece = next_rule;
        all_pieces = rules.order;
        whole = λ path. ap (onpath path) (all_stages (length p.stages) p.stmts rules.inside);
        arrives = rules.arrives;
        steady = steady_rule;
        settled = settled_rule;
        uses = rules.uses;
        over = rules.over;
        unreserved = rules.unreserved;
        unreleased = rules.unreleased;
        unfetched = rules.unfetched;
        calls = rules.calls;
        advice = rules.advice;
        guess_apart = rules.guess_apart;
        updates = rules.updates;
        update_apart = rules.update_apart;
        one_fetch = rules.one_fetch;
        fetch_inside = rules.fetch_inside;
      }
