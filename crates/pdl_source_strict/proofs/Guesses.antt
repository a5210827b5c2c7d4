-- After a guess of a path, and after an update of one, none of its variables is bound.
use Rattle.std.proofs.Common.{◌≡◌, refl, ap, ℕ, ◌≤◌, ◌<◌, Bool, true, false, ◌&&◌, not, List, [], ◌∷◌, ◌++◌, length, arith}
use Rattle.std.proofs.lemmas.Bool.{and_parts, and_from}
use Rattle.pdl_semantics.specs.Tree.{Expr, Variable, R, W, Stmt, CombRead, Bind, SpecCall, Update, DelayedRead, Write, Reserve, If, Mem}
use Rattle.pdl_semantics.specs.Flat
use Rattle.pdl_semantics.specs.Flat.{list_all}
use Rattle.pdl_semantics.specs.Flatten.{Var, flat_exprs, is_advisory_mem, is_advised}
use Rattle.pdl_theory_turns.specs.Facts.{uses_any}
use Rattle.pdl_source_stages.proofs.Sites.{Site, All}
use Rattle.pdl_source_stages.proofs.SiteFacts.{either_read, either_bind, either_write}
use Rattle.pdl_source_paths.proofs.PathStatements
use Rattle.pdl_source_paths.proofs.PathStatements.{ops_of, seen_ops, seen}
use Rattle.pdl_source_paths.proofs.Growth.{Grows, vars_past, past_grown}
use Rattle.pdl_source_paths.proofs.GuardFacts.{grown_long}
use Rattle.pdl_theory_states.specs.Strict.{binds_used, all_keep_guess}
use Rattle.pdl_source_strict.proofs.FreshVariables.{Uses, exprs_low}

all_onto : (f : Flat.Stmt → Bool) (xs ys : List Flat.Stmt) → list_all f xs ≡ true → list_all f ys ≡ true → list_all f (xs ++ ys) ≡ true
all_onto f [] ys h i = i
all_onto f (x ∷ xs) ys h i = let parts = and_parts (f x) (list_all f xs) h in and_from _ _ parts.0 (all_onto f xs ys parts.1 i)

-- none of these binds a variable of the arguments
abbrev Spares : List Flat.Expr → List Flat.Stmt → Type 0
Spares args xs = list_all (λ z. not (binds_used args z.op)) xs ≡ true

-- the arguments use the first n variables alone
abbrev AreLow : ℕ → List Flat.Expr → Type 0
AreLow n args = (y : ℕ) → uses_any y args ≡ true → y < n

-- a site binds no variable that is there before it
site_spares : (k : ℕ) (ms : List Mem) (vs : List Var) (args : List Flat.Expr) → AreLow (length vs) args → (s : Stmt) → Spares args (seen_ops k (ops_of ms vs s))
site_spares k ms vs args low s = at s
  where
    unused : (b : Bool) → (b ≡ true → length vs < length vs) → b ≡ false
    unused true f = absurd (let i = f refl in omega arith)
    unused false f = refl

    free : (not (uses_any (length vs) args) && true) ≡ true
    free = and_from _ _ (ap not (unused (uses_any (length vs) args) (low (length vs)))) refl

    of_if : (c : Expr) → Spares args (seen_ops k (PathStatements.if_ops vs c))
    of_if (Variable x) = refl
    of_if _ = free

    at : (z : Stmt) → Spares args (seen_ops k (ops_of ms vs z))
    at (CombRead sp x l) = either_read (λ op. Spares args (seen_ops k (op ∷ []))) (is_advisory_mem ms l.mem.name) _ _ _ free free
    at (Bind sp x e) = either_bind (λ op. Spares args (seen_ops k (op ∷ []))) (is_advised vs e) _ _ free free
    at (Write sp l e) = either_write (λ op. Spares args (seen_ops k (op ∷ []))) (is_advisory_mem ms l.mem.name) _ _ _ refl refl
    at (DelayedRead sp x l) = free
    at (Reserve sp l R) = refl
    at (Reserve sp l W) = refl
    at (If sp c when otherwise) = of_if c
    at _ = refl

-- nor do the sites after it
sites_spare : (ms : List Mem) (n : ℕ) (args : List Flat.Expr)
    → AreLow n args → (vs us : List Var) (ts : List Site) → n ≤ length vs → Grows ms vs ts us → Spares args (seen ms ts)
sites_spare ms n args low vs us [] l g = refl
sites_spare ms n args low vs us (t ∷ ts) l g =
    let a = grown_long vs t.walk.vars g.0 in
    let b = grown_long t.walk.vars (vars_past ms t.walk.vars t.stmt) (past_grown ms t.walk.vars t.stmt) in
    all_onto (λ z. not (binds_used args z.op)) (seen_ops t.walk.stage (ops_of ms t.walk.vars t.stmt)) (seen ms ts)
    (site_spares t.walk.stage ms t.walk.vars args (λ y u. (let c = low y u in omega arith)) t.stmt)
    (sites_spare ms n args low (vars_past ms t.walk.vars t.stmt) us ts (omega arith) g.1)

site_keeps : (k : ℕ) (ms : List Mem) (vs : List Var) (s : Stmt)
    → Uses vs s → (rest : List Flat.Stmt) → ((args : List Flat.Expr) → AreLow (length vs) args → Spares args rest)
    → all_keep_guess rest ≡ true → all_keep_guess (seen_ops k (ops_of ms vs s) ++ rest) ≡ true
site_keeps k ms vs (SpecCall sp g args) u rest later go = and_from _ _ (later (flat_exprs vs args) (exprs_low vs u.test u.named args u.expressions)) go
site_keeps k ms vs (Update sp g args) u rest later go = and_from _ _ (later (flat_exprs vs args) (exprs_low vs u.test u.named args u.expressions)) go
site_keeps k ms vs (CombRead sp x l) u rest later go =
    either_read (λ op. all_keep_guess (seen_ops k (op ∷ []) ++ rest) ≡ true) (is_advisory_mem ms l.mem.name) _ _ _ go go
site_keeps k ms vs (Bind sp x e) u rest later go = either_bind (λ op. all_keep_guess (seen_ops k (op ∷ []) ++ rest) ≡ true) (is_advised vs e) _ _ go go
site_keeps k ms vs (Write sp l e) u rest later go =
    either_write (λ op. all_keep_guess (seen_ops k (op ∷ []) ++ rest) ≡ true) (is_advisory_mem ms l.mem.name) _ _ _ go go
site_keeps k ms vs (Reserve sp l R) u rest later go = go
site_keeps k ms vs (Reserve sp l W) u rest later go = go
site_keeps k ms vs (If sp (Variable x) when otherwise) u rest later go = go
site_keeps k ms vs (If sp c when otherwise) u rest later go = go
site_keeps k ms vs _ u rest later go = go

-- after each guess along sites none of its variables is bound
pub sites_keep : (ms : List Mem) (vs us : List Var) (ts : List Site)
    → Grows ms vs ts us → All (λ t. Uses t.walk.vars t.stmt) ts → all_keep_guess (seen ms ts) ≡ true
sites_keep ms vs us [] g u = refl
sites_keep ms vs us (t ∷ ts) g u =
    site_keeps t.walk.stage ms t.walk.vars t.stmt u.0 (seen ms ts)
    (λ args low. sites_spare ms (length t.walk.vars) args low (vars_past ms t.walk.vars t.stmt) us ts
    (grown_long t.walk.vars (vars_past ms t.walk.vars t.stmt) (past_grown ms t.walk.vars t.stmt)) g.1)
    (sites_keep ms (vars_past ms t.walk.vars t.stmt) us ts g.1 u.1)
