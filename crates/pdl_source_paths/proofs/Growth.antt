-- The variables after each site are those before it, with what it binds, and more: along the text and along each path.
use Rattle.std.proofs.Common.{◌≡◌, refl, sym, ap, ◌∙◌, subst, Bool, true, false, List, [], ◌∷◌, ◌++◌, if◌then◌else◌, append_assoc, append-nil}
use Rattle.pdl_semantics.specs.Tree.{Expr, Variable, Stmt, CombRead, Bind, DelayedRead, If, Stmts, Nil, Cons, Mem, Pipe}
use Rattle.pdl_semantics.specs.Flat
use Rattle.pdl_semantics.specs.Flatten.{Var, mem_width, width_of, at_start, params_of, with_guard, past, past_all, at_otherwise, under, is_advisory_mem, is_advised}
use Rattle.pdl_semantics.specs.Flatten
use Rattle.pdl_rules.specs.Places.{Place, Statement, Guard, Branch, with_inner, statements, on_path}
use Rattle.pdl_source_stages.proofs.Sites.{Site, branch, sites_in, sites, sites_of, front_of, place_of}
use Rattle.pdl_source_paths.proofs.PathStatements.{on_sites}
use Rattle.pdl_semantics.proofs.Facts.{all_vars}

-- the variables after a statement alone
abbrev pub if_past : List Var → Expr → List Var
if_past vs (Variable x) = vs
if_past vs _ = vs ++ record { name = []; width = 1; advised = false } ∷ []

-- the variables after a statement by itself: those before it, and the one that it binds
abbrev pub vars_past : List Mem → List Var → Stmt → List Var
vars_past ms vs (CombRead _ x from) = vs ++ record { name = x.name; width = mem_width ms from.mem.name; advised = is_advisory_mem ms from.mem.name } ∷ []
vars_past ms vs (Bind _ x e) = vs ++ record { name = x.name; width = width_of vs e; advised = is_advised vs e } ∷ []
vars_past ms vs (DelayedRead _ x from) = vs ++ record { name = x.name; width = mem_width ms from.mem.name; advised = false } ∷ []
vars_past ms vs (If _ c _ _) = if_past vs c
vars_past ms vs _ = vs

-- the variables are these and more
abbrev pub Grown : List Var → List Var → Type 0
Grown vs us = (more : List Var) × (us ≡ vs ++ more)

-- variables are grown from themselves, with no more of them
pub grown_same : (vs : List Var) → Grown vs vs
grown_same vs = ([], sym (append-nil vs))

-- variables that are grown from grown ones are grown from the first ones
pub grown_more : (vs us ws : List Var) → Grown vs us → Grown us ws → Grown vs ws
grown_more vs us ws h k = (h.0 ++ k.0, k.1 ∙ ap (λ l. l ++ k.0) h.1 ∙ append_assoc vs h.0 k.0)

-- the variables after a statement are grown from those before it
pub past_grown : (ms : List Mem) (vs : List Var) (s : Stmt) → Grown vs (vars_past ms vs s)
past_grown ms vs (CombRead _ x from) = (_, refl)
past_grown ms vs (Bind _ x e) = (_, refl)
past_grown ms vs (DelayedRead _ x from) = (_, refl)
past_grown ms vs (If _ (Variable x) _ _) = grown_same vs
past_grown ms vs (If _ _ _ _) = (_, refl)
past_grown ms vs _ = grown_same vs

-- each site has the variables that those before it bind, from vs to us
abbrev pub Grows : List Mem → List Var → List Site → List Var → Type 0
Grows ms vs [] us = Grown vs us
Grows ms vs (t ∷ ts) us = Grown vs t.walk.vars × Grows ms (vars_past ms t.walk.vars t.stmt) ts us

grows_from : (ms : List Mem) (vs ws us : List Var) (ts : List Site) → Grown vs ws → Grows ms ws ts us → Grows ms vs ts us
grows_from ms vs ws us [] h k = grown_more vs ws us h k
grows_from ms vs ws us (t ∷ ts) h k = (grown_more vs ws t.walk.vars h k.0, k.1)

grows_append : (ms : List Mem) (vs ws us : List Var) (xs ys : List Site) → Grows ms vs xs ws → Grows ms ws ys us → Grows ms vs (xs ++ ys) us
grows_append ms vs ws us [] ys h k = grows_from ms vs ws us ys h k
grows_append ms vs ws us (x ∷ xs) ys h k = (h.0, grows_append ms (vars_past ms x.walk.vars x.stmt) ws us xs ys h.1 k)

guard_past : (c : Expr) (w : Flatten.Position) → (with_guard c w).vars ≡ if_past w.vars c
guard_past (Variable x) w = refl
guard_past _ w = refl

mutual
  grows_in : (ms : List Mem) (front : List Place) (w : Flatten.Position) (gs : List Flat.Guard) (bs : List Branch) (s : Stmt)
      → Grows ms w.vars (sites_in ms front w gs bs s) (past ms s w).vars
  grows_in ms front w gs bs (If sp c when otherwise) = (
    grown_same w.vars,
    subst
        (λ vs. Grows ms vs
        (sites ms (front ++ Statement (If sp c when otherwise) bs ∷ []) (with_guard c w) (under gs w.vars c true) (bs ++ branch sp c true when ∷ []) when
        ++ sites ms (front ++ Statement (If sp c when otherwise) bs ∷ statements (bs ++ branch sp c true when ∷ []) when)
        (at_otherwise ms c when w) (under gs w.vars c false) (bs ++ branch sp c false otherwise ∷ []) otherwise)
        (past ms (If sp c when otherwise) w).vars) (guard_past c w)
        (grows_append ms (with_guard c w).vars (past_all ms when (with_guard c w)).vars (past ms (If sp c when otherwise) w).vars
        (sites ms (front ++ Statement (If sp c when otherwise) bs ∷ []) (with_guard c w) (under gs w.vars c true) (bs ++ branch sp c true when ∷ []) when)
        (sites ms (front ++ Statement (If sp c when otherwise) bs ∷ statements (bs ++ branch sp c true when ∷ []) when)
        (at_otherwise ms c when w) (under gs w.vars c false) (bs ++ branch sp c false otherwise ∷ []) otherwise)
        (grows ms (front ++ Statement (If sp c when otherwise) bs ∷ []) (with_guard c w) (under gs w.vars c true) (bs ++ branch sp c true when ∷ []) when)
        (grows ms (front ++ Statement (If sp c when otherwise) bs ∷ statements (bs ++ branch sp c true when ∷ []) when)
        (at_otherwise ms c when w) (under gs w.vars c false) (bs ++ branch sp c false otherwise ∷ []) otherwise)),
  )
  grows_in ms front w gs bs (CombRead _ x from) = (grown_same w.vars, grown_same _)
  grows_in ms front w gs bs (Bind _ x e) = (grown_same w.vars, grown_same _)
  grows_in ms front w gs bs (DelayedRead _ x from) = (grown_same w.vars, grown_same _)
  grows_in ms front w gs bs _ = (grown_same w.vars, grown_same w.vars)

  grows : (ms : List Mem) (front : List Place) (w : Flatten.Position) (gs : List Flat.Guard) (bs : List Branch) (ss : Stmts)
      → Grows ms w.vars (sites ms front w gs bs ss) (past_all ms ss w).vars
  grows ms front w gs bs Nil = grown_same w.vars
  grows ms front w gs bs (Cons s ss) =
      grows_append ms w.vars (past ms s w).vars (past_all ms ss (past ms s w)).vars (sites_in ms front w gs bs s)
      (sites ms (front ++ with_inner bs s) (past ms s w) gs bs ss)
      (grows_in ms front w gs bs s) (grows ms (front ++ with_inner bs s) (past ms s w) gs bs ss)

-- along a source each site has the variables that the parameters and the sites before it bind
pub grows_all : (p : Pipe) → Grows p.mems (params_of p.params) (sites_of p) (all_vars p)
grows_all p = grows p.mems (front_of p) (at_start p) [] [] p.body

-- where the variables grow along sites, they grow along those on a path
pub grows_on : (ms : List Mem) (c : List Guard) (vs us : List Var) (ts : List Site) → Grows ms vs ts us → Grows ms vs (on_sites c ts) us
grows_on ms c vs us [] h = h
grows_on ms c vs us (t ∷ ts) h = at (on_path c (place_of t)) (grows_on ms c (vars_past ms t.walk.vars t.stmt) us ts h.1)
  where
    at : (b : Bool) → Grows ms (vars_past ms t.walk.vars t.stmt) (on_sites c ts) us → Grows ms vs (if b then t ∷ on_sites c ts else on_sites c ts) us
    at true k = (h.0, k)
    at false k =
        grows_from ms vs (vars_past ms t.walk.vars t.stmt) us (on_sites c ts)
        (grown_more vs t.walk.vars (vars_past ms t.walk.vars t.stmt) h.0 (past_grown ms t.walk.vars t.stmt)) k
