-- The variables that a flat statement uses have names, which its place uses.
use Rattle.std.proofs.Common.{◌≡◌, ℕ, ◌⊎◌, inl, inr, Bool, true, false, ◌||◌, List, [], ◌∷◌, length, ◌==◌, ⊎_elim, Some}
use Rattle.std.proofs.lemmas.Bool.{false≢true, or_cases, or_left, or_right, eqb-true}
use Rattle.std.specs.List.{list_any}
use Rattle.pdl_semantics.specs.Tree.{R, W, Expr, Constant, Variable, Slice, Not, Binary, Cat, LessSigned, ZeroExtend, SignExtend, Choose, Location, Stmt, Separator, CombRead, Bind, SpecCall, DelayedRead, Write, Reserve, Block, Release, If, Call, Verify, Update, SpecCheck, SpecBarrier, Mem}
use Rattle.pdl_semantics.specs.Flatten.{Var, var_of, flat_expr, flat_exprs, mem_of, is_advisory_mem, is_advised}
use Rattle.pdl_rules.specs.Places.{Statement, Branch}
use Rattle.pdl_rules.specs.Parts.{some_part}
use Rattle.pdl_rules.specs.Names.{Use, OfVariable, OfMemory, OfGuess, reads_some, some_use}
use Rattle.pdl_theory_turns.specs.Facts.{uses_in, uses_any, mentions_var}
use Rattle.pdl_source_stages.proofs.SiteFacts.{op_of, from_op, either_read, either_bind, either_write}

-- a name with this number, whose use by an expression a test finds
abbrev pub InExpr : List Var → ℕ → Expr → Type 0
InExpr vs x e = (n : List ℕ) × (var_of vs n ≡ x) × ((test : Use → Bool) → test (OfVariable n) ≡ true → some_part (reads_some test) e ≡ true)

abbrev Wider : (vs : List Var) (x : ℕ) (a e : Expr) → Type 0
Wider vs x a e = (test : Use → Bool) → some_part (reads_some test) a ≡ true → some_part (reads_some test) e ≡ true

wider : (vs : List Var) (x : ℕ) (a e : Expr) → Wider vs x a e → InExpr vs x a → InExpr vs x e
wider vs x a e f h = (h.0, h.1, λ test t. f test (h.2 test t))

-- a variable that an expression uses in flat form is the number of a name that the expression uses
pub in_expr : (vs : List Var) (x : ℕ) (e : Expr) → uses_in x (flat_expr vs e) ≡ true → InExpr vs x e
in_expr vs x (Constant l) h = absurd (false≢true h)
in_expr vs x (Variable y) h = (y.name, eqb-true (var_of vs y.name) x h, λ test t. t)
in_expr vs x (Slice y high low) h = (y.name, eqb-true (var_of vs y.name) x h, λ test t. t)
in_expr vs x (Not a) h = wider vs x a (Not a) (λ test t. t) (in_expr vs x a h)
in_expr vs x (Binary op a b) h =
    ⊎_elim
    (λ t. wider vs x a (Binary op a b) (λ test k. or_left (some_part (reads_some test) a) (some_part (reads_some test) b) k) (in_expr vs x a t))
    (λ t. wider vs x b (Binary op a b) (λ test k. or_right (some_part (reads_some test) a) (some_part (reads_some test) b) k) (in_expr vs x b t))
    (or_cases (uses_in x (flat_expr vs a)) (uses_in x (flat_expr vs b)) h)
in_expr vs x (Cat a b) h =
    ⊎_elim
    (λ t. wider vs x a (Cat a b) (λ test k. or_left (some_part (reads_some test) a) (some_part (reads_some test) b) k) (in_expr vs x a t))
    (λ t. wider vs x b (Cat a b) (λ test k. or_right (some_part (reads_some test) a) (some_part (reads_some test) b) k) (in_expr vs x b t))
    (or_cases (uses_in x (flat_expr vs a)) (uses_in x (flat_expr vs b)) h)
in_expr vs x (LessSigned a b) h =
    ⊎_elim
    (λ t. wider vs x a (LessSigned a b) (λ test k. or_left (some_part (reads_some test) a) (some_part (reads_some test) b) k) (in_expr vs x a t))
    (λ t. wider vs x b (LessSigned a b) (λ test k. or_right (some_part (reads_some test) a) (some_part (reads_some test) b) k) (in_expr vs x b t))
    (or_cases (uses_in x (flat_expr vs a)) (uses_in x (flat_expr vs b)) h)
in_expr vs x (ZeroExtend a n) h = wider vs x a (ZeroExtend a n) (λ test t. t) (in_expr vs x a h)
in_expr vs x (SignExtend a n) h = wider vs x a (SignExtend a n) (λ test t. t) (in_expr vs x a h)
in_expr vs x (Choose d a b) h =
    ⊎_elim
    (λ t. wider vs x d (Choose d a b)
    (λ test k. or_left (some_part (reads_some test) d) (some_part (reads_some test) a || some_part (reads_some test) b) k)
    (in_expr vs x d t))
    (λ u. ⊎_elim
    (λ t. wider vs x a (Choose d a b)
    (λ test k. or_right (some_part (reads_some test) d)
    (some_part (reads_some test) a || some_part (reads_some test) b)
    (or_left (some_part (reads_some test) a) (some_part (reads_some test) b) k))
    (in_expr vs x a t))
    (λ t. wider vs x b (Choose d a b)
    (λ test k. or_right (some_part (reads_some test) d)
    (some_part (reads_some test) a || some_part (reads_some test) b)
    (or_right (some_part (reads_some test) a) (some_part (reads_some test) b) k))
    (in_expr vs x b t))
    (or_cases (uses_in x (flat_expr vs a)) (uses_in x (flat_expr vs b)) u))
    (or_cases (uses_in x (flat_expr vs d)) (uses_in x (flat_expr vs a) || uses_in x (flat_expr vs b)) h)

in_exprs : (vs : List Var) (x : ℕ) (es : List Expr)
    → uses_any x (flat_exprs vs es) ≡ true
    → (n : List ℕ) × (var_of vs n ≡ x)
    × ((test : Use → Bool) → test (OfVariable n) ≡ true → list_any (some_part (reads_some test)) es ≡ true)
in_exprs vs x [] h = absurd (false≢true h)
in_exprs vs x (e ∷ es) h =
    ⊎_elim
    (λ t. let r = in_expr vs x e t in (r.0, r.1, λ test k. or_left (some_part (reads_some test) e) (list_any (some_part (reads_some test)) es) (r.2 test k)))
    (λ t. let r = in_exprs vs x es t in (r.0, r.1, λ test k. or_right (some_part (reads_some test) e) (list_any (some_part (reads_some test)) es) (r.2 test k)))
    (or_cases (uses_in x (flat_expr vs e)) (uses_any x (flat_exprs vs es)) h)

-- a statement binds the variable of this number, or uses the name that has this number
abbrev pub AtStmt : List Var → ℕ → Stmt → Type 0
AtStmt vs x s =
    (length vs ≡ x)
    ⊎ ((n : List ℕ) × (var_of vs n ≡ x) × ((test : Use → Bool) (bs : List Branch) → test (OfVariable n) ≡ true → some_use test (Statement s bs) ≡ true))

at_address : (test : Use → Bool) (l : Location) (b : Bool)
    → test (OfVariable l.address.name) ≡ true
    → ((test (OfMemory l.mem.name) || test (OfVariable l.address.name)) || b) ≡ true
at_address test l b e =
    or_left (test (OfMemory l.mem.name) || test (OfVariable l.address.name)) b (or_right (test (OfMemory l.mem.name)) (test (OfVariable l.address.name)) e)

bound_or : (vs : List Var) (x : ℕ) (s : Stmt) (b : Bool) → ((length vs == x) || b) ≡ true → (b ≡ true → AtStmt vs x s) → AtStmt vs x s
bound_or vs x s b h f = ⊎_elim (λ t. inl (eqb-true (length vs) x t)) f (or_cases (length vs == x) b h)

-- a variable that a flat statement has to do with is the one that it binds, or its place uses its name
pub mention : (ms : List Mem) (vs : List Var) (s : Stmt) (x : ℕ) → from_op (mentions_var x) (op_of ms vs s) ≡ true → AtStmt vs x s
mention ms vs (Separator sp) x h = absurd (false≢true h)
mention ms vs (CombRead sp y l) x h =
    either_read (λ op. from_op (mentions_var x) (Some op) ≡ true → AtStmt vs x (CombRead sp y l)) (is_advisory_mem ms l.mem.name) (length vs)
    (mem_of ms l.mem.name) (var_of vs l.address.name) (λ h. absurd (false≢true h))
    (λ h.
    bound_or vs x (CombRead sp y l)
    (var_of vs l.address.name == x) h (λ t. inr (l.address.name, eqb-true (var_of vs l.address.name) x t, λ test bs e. at_address test l false e))) h
mention ms vs (Bind sp y v) x h =
    either_bind (λ op. from_op (mentions_var x) (Some op) ≡ true → AtStmt vs x (Bind sp y v)) (is_advised vs v) (length vs) (flat_expr vs v)
    (λ h. absurd (false≢true h))
    (λ h.
    bound_or vs x (Bind sp y v) (uses_in x (flat_expr vs v)) h (λ t. let r = in_expr vs x v t in inr (r.0, r.1, λ test bs e. r.2 test e))) h
mention ms vs (SpecCall sp g args) x h = let r = in_exprs vs x args h in inr (r.0, r.1, λ test bs e. r.2 test e)
mention ms vs (DelayedRead sp y l) x h =
    bound_or vs x (DelayedRead sp y l)
    (var_of vs l.address.name == x) h (λ t. inr (l.address.name, eqb-true (var_of vs l.address.name) x t, λ test bs e. at_address test l false e))
mention ms vs (Write sp l v) x h =
    either_write (λ op. from_op (mentions_var x) (Some op) ≡ true → AtStmt vs x (Write sp l v)) (is_advisory_mem ms l.mem.name) (mem_of ms l.mem.name)
    (var_of vs l.address.name) (flat_expr vs v) (λ h. absurd (false≢true h))
    (λ h.
    ⊎_elim
    (λ t. inr (l.address.name, eqb-true (var_of vs l.address.name) x t, λ test bs e. at_address test l (some_part (reads_some test) v) e))
    (λ t. let r = in_expr vs x v t in
    inr (r.0, r.1, λ test bs e. or_right (test (OfMemory l.mem.name) || test (OfVariable l.address.name)) (some_part (reads_some test) v) (r.2 test e)))
    (or_cases (var_of vs l.address.name == x) (uses_in x (flat_expr vs v)) h))
    h
mention ms vs (Reserve sp l R) x h = absurd (false≢true h)
mention ms vs (Reserve sp l W) x h = inr (l.address.name, eqb-true (var_of vs l.address.name) x h, λ test bs e. at_address test l false e)
mention ms vs (Block sp l) x h = inr (l.address.name, eqb-true (var_of vs l.address.name) x h, λ test bs e. at_address test l false e)
mention ms vs (Release sp l) x h = absurd (false≢true h)
mention ms vs (If sp (Variable y) when otherwise) x h = absurd (false≢true h)
mention ms vs (If sp c when otherwise) x h =
    bound_or vs x (If sp c when otherwise) (uses_in x (flat_expr vs c)) h (λ t. let r = in_expr vs x c t in inr (r.0, r.1, λ test bs e. r.2 test e))
mention ms vs (Call sp args) x h = let r = in_exprs vs x args h in inr (r.0, r.1, λ test bs e. r.2 test e)
mention ms vs (Verify sp g args) x h = let r = in_exprs vs x args h in
    inr (r.0, r.1, λ test bs e. or_right (test (OfGuess g.name)) (list_any (some_part (reads_some test)) args) (r.2 test e))
mention ms vs (Update sp g args) x h = let r = in_exprs vs x args h in
    inr (r.0, r.1, λ test bs e. or_right (test (OfGuess g.name)) (list_any (some_part (reads_some test)) args) (r.2 test e))
mention ms vs (SpecCheck sp) x h = absurd (false≢true h)
mention ms vs (SpecBarrier sp) x h = absurd (false≢true h)
