-- The sites on a path, and the flat statements there: guards are gone, and delayed reads are reads.
use Rattle.std.proofs.Common.{◌≡◌, refl, ap, ap₂, ◌∙◌, ℕ, Bool, true, false, List, [], ◌∷◌, ◌++◌, length, if◌then◌else◌, cond}
use Rattle.pdl_semantics.specs.Tree.{Expr, Variable, Stmt, Separator, CombRead, Bind, SpecCall, DelayedRead, Write, Reserve, Block, Release, If, Call, Verify, Update, SpecCheck, SpecBarrier, Mem}
use Rattle.pdl_semantics.specs.Flat
use Rattle.pdl_semantics.specs.Flat.{all_hold}
use Rattle.pdl_semantics.specs.Flatten.{Var, var_of, mem_of, flat_expr, flat_exprs, reserve_op, is_advisory_mem, is_advised, bind_op, read_op, write_op}
use Rattle.pdl_semantics.specs.Flatten
use Rattle.pdl_semantics.specs.Stages.{onpath}
use Rattle.pdl_rules.specs.Places.{Guard, on_path}
use Rattle.pdl_theory_turns.specs.Alone.{answered_op}
use Rattle.pdl_theory_turns.specs.Facts.{looked_all}
use Rattle.pdl_source_stages.proofs.Sites.{Site, place_of, own_of, own, owns, All}

-- WHAT A STATEMENT DOES

-- an `if` on an expression binds its guard
abbrev pub if_ops : List Var → Expr → List Flat.Op
if_ops vs (Variable x) = []
if_ops vs c = Flat.Bind (length vs) (flat_expr vs c) ∷ []

-- what a statement does in flat form, where these are the variables before it
abbrev pub ops_of : List Mem → List Var → Stmt → List Flat.Op
ops_of ms vs (Separator _) = []
ops_of ms vs (CombRead _ x from) = read_op (is_advisory_mem ms from.mem.name) (length vs) (mem_of ms from.mem.name) (var_of vs from.address.name) ∷ []
ops_of ms vs (Bind _ x e) = bind_op (is_advised vs e) (length vs) (flat_expr vs e) ∷ []
ops_of ms vs (SpecCall _ guess args) = Flat.SpecCall (flat_exprs vs args) ∷ []
ops_of ms vs (DelayedRead _ x from) = Flat.DelayedRead (length vs) (mem_of ms from.mem.name) (var_of vs from.address.name) ∷ []
ops_of ms vs (Write _ to e) = write_op (is_advisory_mem ms to.mem.name) (mem_of ms to.mem.name) (var_of vs to.address.name) (flat_expr vs e) ∷ []
ops_of ms vs (Reserve _ at kind) = reserve_op kind (mem_of ms at.mem.name) (var_of vs at.address.name) ∷ []
ops_of ms vs (Block _ at) = Flat.Block (mem_of ms at.mem.name) (var_of vs at.address.name) ∷ []
ops_of ms vs (Release _ at) = Flat.Release (mem_of ms at.mem.name) (var_of vs at.address.name) ∷ []
ops_of ms vs (If _ c _ _) = if_ops vs c
ops_of ms vs (Call _ args) = Flat.Call (flat_exprs vs args) ∷ []
ops_of ms vs (Verify _ guess args) = Flat.Verify true (flat_exprs vs args) ∷ []
ops_of ms vs (Update _ guess args) = Flat.Verify false (flat_exprs vs args) ∷ []
ops_of ms vs (SpecCheck _) = Flat.SpecCheck ∷ []
ops_of ms vs (SpecBarrier _) = Flat.SpecBarrier ∷ []

-- what the statement of a site does in flat form
abbrev pub ops : List Mem → Site → List Flat.Op
ops ms t = ops_of ms t.walk.vars t.stmt

-- statements of one stage under these guards
abbrev pub stmts_at : ℕ → List Flat.Guard → List Flat.Op → List Flat.Stmt
stmts_at k gs [] = []
stmts_at k gs (op ∷ os) = record { stage = k; guards = gs; op = op } ∷ stmts_at k gs os

-- the flat statements of a statement alone are what it does, in the walk's stage and under the guards
pub own_is : (ms : List Mem) (gs : List Flat.Guard) (w : Flatten.Position) (s : Stmt)
    → own_of ms gs w s ≡ stmts_at w.stage gs (ops_of ms w.vars s)
own_is ms gs w (If _ (Variable x) _ _) = refl
own_is ms gs w (If _ _ _ _) = refl
own_is ms gs w _ = refl

-- ON A PATH

-- where the guards are gone, and delayed reads are reads
abbrev pub seen_ops : ℕ → List Flat.Op → List Flat.Stmt
seen_ops k [] = []
seen_ops k (op ∷ os) = record { stage = k; guards = []; op = answered_op op } ∷ seen_ops k os

-- the flat statements of sites, where guards are gone and delayed reads are reads
abbrev pub seen : List Mem → List Site → List Flat.Stmt
seen ms [] = []
seen ms (t ∷ ts) = seen_ops t.walk.stage (ops ms t) ++ seen ms ts

-- the sites on a path of the rules
abbrev pub on_sites : List Guard → List Site → List Site
on_sites c [] = []
on_sites c (t ∷ ts) = if on_path c (place_of t) then t ∷ on_sites c ts else on_sites c ts

-- a path of the flat form leads the same way as one of the rules
abbrev pub Alike : List ℕ → List Guard → Site → Type 0
Alike path c t = all_hold t.gs path ≡ on_path c (place_of t)

onpath_append : (path : List ℕ) (xs ys : List Flat.Stmt) → onpath path (xs ++ ys) ≡ onpath path xs ++ onpath path ys
onpath_append path [] ys = refl
onpath_append path (x ∷ xs) ys = at (all_hold x.guards path) (onpath_append path xs ys)
  where
    at : (b : Bool) → onpath path (xs ++ ys) ≡ onpath path xs ++ onpath path ys
        → cond b (record x { guards = [] } ∷ onpath path (xs ++ ys)) (onpath path (xs ++ ys))
        ≡ cond b (record x { guards = [] } ∷ onpath path xs) (onpath path xs) ++ onpath path ys
    at true e = ap (λ l. record x { guards = [] } ∷ l) e
    at false e = e

-- two lists of statements, one after the other, have their delayed reads answered as each has
pub looked_append : (xs ys : List Flat.Stmt) → looked_all (xs ++ ys) ≡ looked_all xs ++ looked_all ys
looked_append [] ys = refl
looked_append (x ∷ xs) ys = ap (λ l. record x { op = answered_op x.op } ∷ l) (looked_append xs ys)

one_path : (path : List ℕ) (k : ℕ) (gs : List Flat.Guard) (b : Bool)
    → all_hold gs path ≡ b → (os : List Flat.Op)
    → onpath path (looked_all (stmts_at k gs os)) ≡ (if b then seen_ops k os else [])
one_path path k gs true e [] = refl
one_path path k gs false e [] = refl
one_path path k gs true e (op ∷ os) =
    ap
    (λ b. cond b (record { stage = k; guards = []; op = answered_op op } ∷ onpath path (looked_all (stmts_at k gs os)))
    (onpath path (looked_all (stmts_at k gs os)))) e
    ∙ ap (λ l. record { stage = k; guards = []; op = answered_op op } ∷ l) (one_path path k gs true e os)
one_path path k gs false e (op ∷ os) =
    ap
    (λ b. cond b (record { stage = k; guards = []; op = answered_op op } ∷ onpath path (looked_all (stmts_at k gs os)))
    (onpath path (looked_all (stmts_at k gs os)))) e
    ∙ one_path path k gs false e os

-- the statements on a path are those of the sites that the path of the rules leads through
pub path_is : (ms : List Mem) (path : List ℕ) (c : List Guard) (ts : List Site) → All (Alike path c) ts
    → onpath path (looked_all (owns ms ts)) ≡ seen ms (on_sites c ts)
path_is ms path c [] h = refl
path_is ms path c (t ∷ ts) h =
    ap (onpath path) (looked_append (own ms t) (owns ms ts))
    ∙ onpath_append path (looked_all (own ms t)) (looked_all (owns ms ts))
    ∙ ap₂ (λ k l. k ++ l)
    (ap (λ l. onpath path (looked_all l)) (own_is ms t.gs t.walk t.stmt) ∙ one_path path t.walk.stage t.gs (on_path c (place_of t)) h.0 (ops ms t))
    (path_is ms path c ts h.1)
    ∙ at (on_path c (place_of t))
  where
    at : (b : Bool) → (if b then seen_ops t.walk.stage (ops ms t) else []) ++ seen ms (on_sites c ts) ≡ seen ms (if b then t ∷ on_sites c ts else on_sites c ts)
    at true = refl
    at false = refl
