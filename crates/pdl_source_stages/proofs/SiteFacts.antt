-- What holds at each site of a source that breaks no rule, and how facts of sites become facts of the flat statements.
use Rattle.std.proofs.Common.{◌≡◌, refl, sym, ap, ◌∙◌, subst, ℕ, ◌<◌, Bool, true, false, ◌||◌, not, List, [], ◌∷◌, ◌++◌, length, Option, Some, None, arith, if◌then◌else◌, ◌==◌, eq-eqb, eqb-true}
use Rattle.std.proofs.lemmas.Bool.{false≢true, and_from}
use Rattle.pdl_semantics.specs.Tree.{Variable, Stmt, Separator, CombRead, Bind, SpecCall, DelayedRead, Write, Reserve, Block, Release, If, Call, Verify, Update, SpecCheck, SpecBarrier, Mem, Pipe}
use Rattle.pdl_semantics.specs.Flat
use Rattle.pdl_semantics.specs.Flatten.{Var, var_of, mem_of, flat_expr, flat_exprs, reserve_op, at_position, at_start, flat, is_advisory_mem, is_advised, bind_op, read_op, write_op}
use Rattle.pdl_semantics.specs.Flatten
use Rattle.pdl_rules.specs.Places.{Place, places}
use Rattle.pdl_rules.specs.Forks.{is_trunk_only}
use Rattle.pdl_rules.specs.Refusal.{KeepsRules}
use Rattle.pdl_theory_turns.specs.Scans.{none_of, all_at}
use Rattle.pdl_theory_turns.specs.Facts.{trunk_only}
use Rattle.pdl_semantics.specs.Stages.{in_stage}
use Rattle.pdl_source_stages.proofs.Sites.{Site, sites_of, front_of, place_of, own_of, own, owns, All, Stands, all_stand, stmts_are}
use Rattle.pdl_source_stages.proofs.Walks.{At}
use Rattle.pdl_source_stages.proofs.Walks
use Rattle.pdl_source_stages.proofs.Shapes.{is_forked}
use Rattle.pdl_source_stages.proofs.BodyShape.{body_forked, stage_count}
use Rattle.pdl_source_stages.proofs.SiteStages.{Standing, all_standing, all_both, all_map, stages_all}
use Rattle.pdl_source_stages.proofs.StatementStages.{Staged, all_staged}
use Rattle.pdl_word.specs.Each.{Each}
use Rattle.pdl_word.proofs.Each.{each_append}

-- AT EACH SITE

-- a site stands in the text after its front, which tells its stages, variables and guards, and its stage is one of the pipe's
pub record Fine (p : Pipe) (t : Site) : Type 0 where
  pub later : List Place
  pub whole : places p ≡ t.front ++ place_of t ∷ later
  pub here : At t.front t.walk t.gs t.branches
  pub standing : Standing (flat p) t
  pub staged : Staged t
  pub inside : t.walk.stage < length (flat p).stages

inside_all : (p : Pipe) → is_forked p.body ≡ true → All (λ t. t.walk.stage < length (flat p).stages) (sites_of p)
inside_all p h =
    let e = stage_count p h in
    stages_all (λ n. n < length (flat p).stages) p.mems (front_of p) (at_start p) [] [] p.body (omega arith) (λ n low high. omega arith)

-- `Fine` holds of each site of a source that breaks no rule
pub all_fine : (p : Pipe) → KeepsRules p → All (Fine p) (sites_of p)
all_fine p rules =
    let forked = body_forked p rules in
    all_both (λ t. (Stands (places p) t × At t.front t.walk t.gs t.branches) × (Standing (flat p) t × Staged t))
    (λ t. t.walk.stage < length (flat p).stages) (Fine p)
    (λ t a i. record { later = a.0.0.0; whole = a.0.0.1; here = a.0.1; standing = a.1.0; staged = a.1.1; inside = i }) (sites_of p)
    (all_both (λ t. Stands (places p) t × At t.front t.walk t.gs t.branches) (λ t. Standing (flat p) t × Staged t)
    (λ t. (Stands (places p) t × At t.front t.walk t.gs t.branches) × (Standing (flat p) t × Staged t))
    (λ t a b. (a, b)) (sites_of p)
    (all_both (Stands (places p)) (λ t. At t.front t.walk t.gs t.branches)
    (λ t. Stands (places p) t × At t.front t.walk t.gs t.branches) (λ t a b. (a, b)) (sites_of p) (all_stand p)
    (Walks.all_at p))
    (all_both (Standing (flat p)) Staged (λ t. Standing (flat p) t × Staged t) (λ t a b. (a, b)) (sites_of p) (all_standing p forked) (all_staged p forked)))
    (inside_all p forked)

-- FLAT STATEMENTS

-- what a statement's flat form does, where it has one
abbrev pub op_of : List Mem → List Var → Stmt → Option Flat.Op
op_of ms vs (Separator _) = None
op_of ms vs (CombRead _ x from) = Some (read_op (is_advisory_mem ms from.mem.name) (length vs) (mem_of ms from.mem.name) (var_of vs from.address.name))
op_of ms vs (Bind _ x e) = Some (bind_op (is_advised vs e) (length vs) (flat_expr vs e))
op_of ms vs (SpecCall _ guess args) = Some (Flat.SpecCall (flat_exprs vs args))
op_of ms vs (DelayedRead _ x from) = Some (Flat.DelayedRead (length vs) (mem_of ms from.mem.name) (var_of vs from.address.name))
op_of ms vs (Write _ to e) = Some (write_op (is_advisory_mem ms to.mem.name) (mem_of ms to.mem.name) (var_of vs to.address.name) (flat_expr vs e))
op_of ms vs (Reserve _ at kind) = Some (reserve_op kind (mem_of ms at.mem.name) (var_of vs at.address.name))
op_of ms vs (Block _ at) = Some (Flat.Block (mem_of ms at.mem.name) (var_of vs at.address.name))
op_of ms vs (Release _ at) = Some (Flat.Release (mem_of ms at.mem.name) (var_of vs at.address.name))
op_of ms vs (If _ (Variable x) when otherwise) = None
op_of ms vs (If _ c when otherwise) = Some (Flat.Bind (length vs) (flat_expr vs c))
op_of ms vs (Call _ args) = Some (Flat.Call (flat_exprs vs args))
op_of ms vs (Verify _ guess args) = Some (Flat.Verify true (flat_exprs vs args))
op_of ms vs (Update _ guess args) = Some (Flat.Verify false (flat_exprs vs args))
op_of ms vs (SpecCheck _) = Some Flat.SpecCheck
op_of ms vs (SpecBarrier _) = Some Flat.SpecBarrier

-- the flat statement of a site that does this, none where it does nothing
abbrev pub rows_of : List Flat.Guard → Flatten.Position → Option Flat.Op → List Flat.Stmt
rows_of gs w None = []
rows_of gs w (Some op) = at_position gs w op

-- the flat statements of a site alone are the one that does what its statement does, if it does something
pub own_is : (ms : List Mem) (gs : List Flat.Guard) (w : Flatten.Position) (s : Stmt) → own_of ms gs w s ≡ rows_of gs w (op_of ms w.vars s)
own_is ms gs w (If _ (Variable x) when otherwise) = refl
own_is ms gs w (If _ c when otherwise) = refl
own_is ms gs w _ = refl

-- a test of what there is
abbrev pub from_op : (Flat.Op → Bool) → Option Flat.Op → Bool
from_op test None = false
from_op test (Some op) = test op

-- of a read, a binding and a write, advisory or not
pub read_none : (test : Flat.Op → Bool) (b : Bool) (x m a : ℕ)
    → test (Flat.AdviceRead x m a) ≡ false → test (Flat.CombRead x m a) ≡ false → test (read_op b x m a) ≡ false
read_none test true x m a h k = h
read_none test false x m a h k = k

-- what holds of neither binding doesn't hold of the one that is made
pub bind_none : (test : Flat.Op → Bool) (b : Bool) (x : ℕ) (e : Flat.Expr)
    → test (Flat.AdviceBind x e) ≡ false → test (Flat.Bind x e) ≡ false → test (bind_op b x e) ≡ false
bind_none test true x e h k = h
bind_none test false x e h k = k

-- what holds of neither write doesn't hold of the one that is made
pub write_none : (test : Flat.Op → Bool) (b : Bool) (m a : ℕ) (e : Flat.Expr)
    → test (Flat.AdviceWrite m a e) ≡ false → test (Flat.Write m a e) ≡ false → test (write_op b m a e) ≡ false
write_none test true m a e h k = h
write_none test false m a e h k = k

-- what holds of both statements holds of the one that is made
pub either_read : (P : Flat.Op → Type 0) (b : Bool) (x m a : ℕ) → P (Flat.AdviceRead x m a) → P (Flat.CombRead x m a) → P (read_op b x m a)
either_read P true x m a h k = h
either_read P false x m a h k = k

-- the same of bindings
pub either_bind : (P : Flat.Op → Type 0) (b : Bool) (x : ℕ) (e : Flat.Expr) → P (Flat.AdviceBind x e) → P (Flat.Bind x e) → P (bind_op b x e)
either_bind P true x e h k = h
either_bind P false x e h k = k

-- the same of writes
pub either_write : (P : Flat.Op → Type 0) (b : Bool) (m a : ℕ) (e : Flat.Expr) → P (Flat.AdviceWrite m a e) → P (Flat.Write m a e) → P (write_op b m a e)
either_write P true m a e h k = h
either_write P false m a e h k = k

-- the flat statement of a site that does this

-- the flat statement that has this operation at a site
abbrev pub row_at : Site → Flat.Op → Flat.Stmt
row_at t op = record { stage = t.walk.stage; guards = t.gs; op = op }

-- a property holds of the flat statement of a site, if the site has one
abbrev pub AtSite : (Flat.Stmt → Type 0) → List Mem → Site → Type 0
AtSite P ms t = (op : Flat.Op) → op_of ms t.walk.vars t.stmt ≡ Some op → P (row_at t op)

each_row : (P : Flat.Stmt → Type 0) (t : Site) (o : Option Flat.Op)
    → ((op : Flat.Op) → o ≡ Some op → P (row_at t op)) → Each P (rows_of t.gs t.walk o)
each_row P t None h = tt
each_row P t (Some op) h = (h op refl, tt)

each_owns : (P : Flat.Stmt → Type 0) (ms : List Mem) (ts : List Site) → All (AtSite P ms) ts → Each P (owns ms ts)
each_owns P ms [] h = tt
each_owns P ms (t ∷ ts) h =
    each_append P (own ms t) (owns ms ts)
    (subst (Each P) (sym (own_is ms t.gs t.walk t.stmt)) (each_row P t (op_of ms t.walk.vars t.stmt) h.0))
    (each_owns P ms ts h.1)

-- what holds of the flat statement of each site holds of each flat statement of the source
pub each_stmt : (p : Pipe) (P : Flat.Stmt → Type 0) → All (AtSite P p.mems) (sites_of p) → Each P (flat p).stmts
each_stmt p P h = subst (Each P) (sym (stmts_are p)) (each_owns P p.mems (sites_of p) h)

-- what holds of the flat statement of each site of a source that breaks no rule holds of each flat statement of the source
pub each_fine : (p : Pipe) → KeepsRules p → (P : Flat.Stmt → Type 0) → ((t : Site) → Fine p t → AtSite P p.mems t) → Each P (flat p).stmts
each_fine p rules P f = each_stmt p P (all_map (Fine p) (AtSite P p.mems) f (sites_of p) (all_fine p rules))

-- SCANS

-- each statement that passes the test stands in stage s
pub all_at_each : (test : Flat.Op → Bool) (s : ℕ) (ys : List Flat.Stmt)
    → Each (λ y. test y.op ≡ true → y.stage ≡ s) ys → all_at test s ys ≡ true
all_at_each test s [] h = refl
all_at_each test s (y ∷ ys) h = and_from (not (test y.op) || (y.stage == s)) (all_at test s ys) (at (test y.op) refl) (all_at_each test s ys h.1)
  where
    at : (b : Bool) → test y.op ≡ b → (not b || (y.stage == s)) ≡ true
    at true e = eq-eqb y.stage s (h.0 e)
    at false e = refl

-- where each statement fails the test, none passes it
pub none_each : (test : Flat.Op → Bool) (ys : List Flat.Stmt) → Each (λ y. test y.op ≡ false) ys → none_of test ys ≡ true
none_each test [] h = refl
none_each test (y ∷ ys) h = and_from (not (test y.op)) (none_of test ys) (ap not h.0) (none_each test ys h.1)

-- what holds of each statement that stands in stage s holds of each statement of that stage
pub each_in_stage : (P : Flat.Stmt → Type 0) (s : ℕ) (ys : List Flat.Stmt) → Each (λ y. y.stage ≡ s → P y) ys → Each P (in_stage s ys)
each_in_stage P s [] h = tt
each_in_stage P s (y ∷ ys) h = at (y.stage == s) refl (each_in_stage P s ys h.1)
  where
    at : (b : Bool) → (y.stage == s) ≡ b → Each P (in_stage s ys) → Each P (if b then y ∷ in_stage s ys else in_stage s ys)
    at true e k = (h.0 (eqb-true y.stage s e), k)
    at false e k = k

-- what only a trunk stage may hold is what no branch that holds a separator may hold
pub op_trunk_only : (ms : List Mem) (vs : List Var) (s : Stmt) (op : Flat.Op)
    → op_of ms vs s ≡ Some op → trunk_only op ≡ true → is_trunk_only s ≡ true
op_trunk_only ms vs (Separator _) op e h = cc
op_trunk_only ms vs (CombRead _ x from) op e h =
    absurd
    (false≢true (sym (read_none (trunk_only) (is_advisory_mem ms from.mem.name) (length vs) (mem_of ms from.mem.name) (var_of vs from.address.name) refl refl)
    ∙ ap (from_op trunk_only) e ∙ h))
op_trunk_only ms vs (Bind _ x f) op e h =
    absurd (false≢true (sym (bind_none (trunk_only) (is_advised vs f) (length vs) (flat_expr vs f) refl refl) ∙ ap (from_op trunk_only) e ∙ h))
op_trunk_only ms vs (DelayedRead _ x from) op e h = absurd (false≢true (ap (from_op trunk_only) e ∙ h))
op_trunk_only ms vs (Write _ to f) op e h =
    absurd
    (false≢true (sym (write_none (trunk_only) (is_advisory_mem ms to.mem.name) (mem_of ms to.mem.name) (var_of vs to.address.name) (flat_expr vs f) refl refl)
    ∙ ap (from_op trunk_only) e ∙ h))
op_trunk_only ms vs (Block _ at) op e h = absurd (false≢true (ap (from_op trunk_only) e ∙ h))
op_trunk_only ms vs (If _ (Variable x) when otherwise) op e h = cc
op_trunk_only ms vs (If _ c when otherwise) op e h = absurd (false≢true (ap (from_op trunk_only) e ∙ h))
op_trunk_only ms vs _ op e h = refl
