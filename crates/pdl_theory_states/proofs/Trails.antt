-- The stages that a live thread came through, and the statements that it carried out in them.
use Rattle.std.proofs.Common.{◌≡◌, ◌≢◌, refl, sym, ap, ◌∙◌, subst, ℕ, zero, suc, ◌+◌, ◌≤◌, ◌<◌, ◌⊎◌, inl, inr, Bool, true, false, ◌||◌, List, [], ◌∷◌, ◌++◌, length, Option, Some, None, ◌==◌, cond, if◌then◌else◌, arith, slice_index}
use Rattle.std.proofs.lemmas.Bool.{eqb-true}
use Rattle.pdl_semantics.specs.Flat.{Op, Stmt, Pipe, Next, Ends, Goes, Forks, all_hold}
use Rattle.pdl_semantics.specs.Stages.{onpath, in_stage, stage_at, goes_to}
use Rattle.pdl_semantics.specs.Sound.{one_of, comes_to}
use Rattle.pdl_theory_simulation.proofs.FlowFacts.{Ways}
use Rattle.pdl_theory_states.proofs.UnusedValues.{AllOps, onto}

-- STATEMENTS

-- each statement has the property
abbrev pub AllStmts : (Stmt → Type 0) → List Stmt → Type 0
AllStmts P [] = Unit {0}
AllStmts P (x ∷ xs) = P x × AllStmts P xs

-- where the statements of two lists have a property, those of both lists joined have it
pub stmts_append : (P : Stmt → Type 0) (xs ys : List Stmt) → AllStmts P xs → AllStmts P ys → AllStmts P (xs ++ ys)
stmts_append P [] ys h k = k
stmts_append P (x ∷ xs) ys h k = (h.0, stmts_append P xs ys h.1 k)

-- a property of each statement gives each property that follows from it
pub stmts_map : {P Q : Stmt → Type 0} → ((x : Stmt) → P x → Q x) → (xs : List Stmt) → AllStmts P xs → AllStmts Q xs
stmts_map f [] h = tt
stmts_map f (x ∷ xs) h = (f x h.0, stmts_map f xs h.1)

-- two properties of each statement give each property that follows from both
pub stmts_both : {P Q R : Stmt → Type 0} → ((x : Stmt) → P x → Q x → R x) → (xs : List Stmt) → AllStmts P xs → AllStmts Q xs → AllStmts R xs
stmts_both f [] h k = tt
stmts_both f (x ∷ xs) h k = (f x h.0 k.0, stmts_both f xs h.1 k.1)

-- what holds of all that was carried out holds of the last statements and of what was before them
pub stmts_ops : (P : Op → Type 0) (xs : List Stmt) (past : List Op) → AllOps P (onto xs past) → AllStmts (λ x. P x.op) xs × AllOps P past
stmts_ops P [] past h = (tt, h)
stmts_ops P (x ∷ xs) past h = let k = stmts_ops P xs (x.op ∷ past) h in ((k.1.0, k.0), k.1.1)

-- what holds of some statements and of what was carried out before them holds of all that was carried out
pub ops_stmts : (P : Op → Type 0) (xs : List Stmt) (past : List Op) → AllStmts (λ x. P x.op) xs → AllOps P past → AllOps P (onto xs past)
ops_stmts P [] past h k = k
ops_stmts P (x ∷ xs) past h k = ops_stmts P xs (x.op ∷ past) h.1 (h.0, k)

-- the statements of a stage that are on a path stand in that stage
pub stage_stmts : (path : List ℕ) (s : ℕ) (xs : List Stmt) → AllStmts (λ x. x.stage ≡ s) (onpath path (in_stage s xs))
stage_stmts path s [] = tt
stage_stmts path s (x ∷ xs) = at (x.stage == s) refl (all_hold x.guards path) (stage_stmts path s xs)
  where
    at : (b : Bool) → (x.stage == s) ≡ b → (c : Bool) → AllStmts (λ y. y.stage ≡ s) (onpath path (in_stage s xs))
        → AllStmts (λ y. y.stage ≡ s) (onpath path (cond b (x ∷ in_stage s xs) (in_stage s xs)))
    at true e c k = by (all_hold x.guards path)
      where
        by : (c : Bool) → AllStmts (λ y. y.stage ≡ s) (cond c (record x { guards = [] } ∷ onpath path (in_stage s xs)) (onpath path (in_stage s xs)))
        by true = (eqb-true _ _ e, k)
        by false = k
    at false e c k = k

-- TRAILS

-- the stages that led to stage s with these values, the last one first
abbrev pub Trail : Pipe → List ℕ → ℕ → List ℕ → Type 0
Trail p env s [] = s ≡ 0
Trail p env s (r ∷ rs) = (goes_to (stage_at p r).next env ≡ Some s) × (r < length p.stages) × Trail p env r rs

-- a stage is one of the list
abbrev pub Among : ℕ → List ℕ → Type 0
Among q [] = ⊥
Among q (r ∷ rs) = (q ≡ r) ⊎ Among q rs

-- no fork on the trail hangs on a variable
abbrev pub Steady : Pipe → List ℕ → ℕ → Type 0
Steady p trail x = (r : ℕ) → Among r trail → (z a b : ℕ) → (stage_at p r).next ≡ Forks z a b → z ≢ x

goes_same : (n : Next) (env env' : List ℕ)
    → ((z a b : ℕ) → n ≡ Forks z a b → slice_index env z ≡ slice_index env' z) → goes_to n env ≡ goes_to n env'
goes_same Ends env env' f = refl
goes_same (Goes to) env env' f = refl
goes_same (Forks z a b) env env' f = ap (λ k. Some (if k == 1 then a else b)) (f z a b refl)

-- a trail stays one with other values, where the forks' variables keep theirs
pub trail_same : (p : Pipe) (env env' : List ℕ) (s : ℕ) (trail : List ℕ)
    → ((r : ℕ) → Among r trail → (z a b : ℕ) → (stage_at p r).next ≡ Forks z a b → slice_index env z ≡ slice_index env' z)
    → Trail p env s trail → Trail p env' s trail
trail_same p env env' s [] f h = h
trail_same p env env' s (r ∷ rs) f h =
    (sym (goes_same (stage_at p r).next env env' (f r (inl refl))) ∙ h.0, h.1, trail_same p env env' r rs (λ q i. f q (inr i)) h.2)

module _ (p : Pipe) (g : Ways p) where
  trail_up : (env : List ℕ) (s r : ℕ) → goes_to (stage_at p r).next env ≡ Some s → r < length p.stages → r < s
  trail_up env s r e low = (g.up r s (env, e, low)).0

  -- all stages of a trail come before the one where it ends
  pub among_low : (env : List ℕ) (s : ℕ) (trail : List ℕ) → Trail p env s trail → (q : ℕ) → Among q trail → q < s
  among_low env s [] h q i = absurd i
  among_low env s (r ∷ rs) h q (inl i) = let u = trail_up env s r h.0 h.1 in omega arith
  among_low env s (r ∷ rs) h q (inr i) = let u = trail_up env s r h.0 h.1 in let v = among_low env r rs h.2 q i in omega arith

  -- a stage of a trail leads to one that is no later than where the trail ends
  pub among_next : (env : List ℕ) (s : ℕ) (trail : List ℕ) → Trail p env s trail → (q : ℕ) → Among q trail
      → (n : ℕ) × (goes_to (stage_at p q).next env ≡ Some n) × (n ≤ s)
  among_next env s [] h q i = absurd i
  among_next env s (r ∷ rs) h q (inl i) = (s, ap (λ k. goes_to (stage_at p k).next env) i ∙ h.0, omega arith)
  among_next env s (r ∷ rs) h q (inr i) = let k = among_next env r rs h.2 q i in let u = trail_up env s r h.0 h.1 in (k.0, k.1, (let j = k.2 in omega arith))

  comes_or : (b c d : Bool) → (c ≡ true → d ≡ true) → (b || c) ≡ true → (b || d) ≡ true
  comes_or true c d f h = refl
  comes_or false c d f h = f h

  -- with more steps one comes to it as well
  comes_more : (env : List ℕ) (end k n s : ℕ) → k ≤ n → comes_to p env end k s ≡ true → comes_to p env end n s ≡ true
  comes_more env end zero n s low h = absurd (cc h)
  comes_more env end (suc k) zero s low h = absurd (omega arith)
  comes_more env end (suc k) (suc n) s low h = comes_or (s == end) _ _ (on (goes_to (stage_at p s).next env) (λ q. comes_more env end k n q (omega arith))) h
    where
      on : (r : Option ℕ) → ((q : ℕ) → comes_to p env end k q ≡ true → comes_to p env end n q ≡ true)
          → one_of (comes_to p env end k) r ≡ true → one_of (comes_to p env end n) r ≡ true
      on None f h = h
      on (Some q) f h = f q h

  comes_back : (env : List ℕ) (end s r k : ℕ) → goes_to (stage_at p r).next env ≡ Some s → comes_to p env end k s ≡ true → comes_to p env end (suc k) r ≡ true
  comes_back env end s r k e h = at (r == end)
    where
      at : (b : Bool) → (b || one_of (comes_to p env end k) (goes_to (stage_at p r).next env)) ≡ true
      at true = refl
      at false = ap (one_of (comes_to p env end k)) e ∙ h

  -- stage 0 comes to each stage that the end of a trail comes to
  pub trail_comes : (env : List ℕ) (end s n k : ℕ) (trail : List ℕ) → Trail p env s trail
      → comes_to p env end k s ≡ true → s + k ≤ n → comes_to p env end n 0 ≡ true
  trail_comes env end s n k [] h c low = comes_more env end k n 0 (omega arith) (subst (λ q. comes_to p env end k q ≡ true) h c)
  trail_comes env end s n k (r ∷ rs) h c low =
      trail_comes env end r n (suc k) rs h.2 (comes_back env end s r k h.0 c) (let u = trail_up env s r h.0 h.1 in omega arith)
