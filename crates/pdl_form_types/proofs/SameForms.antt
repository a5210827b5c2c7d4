-- The test of whether two flat forms are the same tells just that.
use Rattle.std.proofs.Common.{◌≡◌, refl, sym, ap, ◌∙◌, ℕ, Bool, true, false, ◌&&◌, ◌==◌, List, [], ◌∷◌, Option, Some, None, if◌then◌else◌, bytes_eq, eqb-true, eq-eqb}
use Rattle.std.proofs.lemmas.Bool.{and_parts, and_from, false≢true}
use Rattle.std.proofs.lemmas.Slice.Eq.{bytes_eq-Decides}
use Rattle.pdl_semantics.specs.Tree.{MemKind, Comb, Delayed, Advisory, BinaryOp, Add, Sub, Mul, And, Or, Xor, Equal, Differ, Less, ShiftLeft, ShiftRight}
use Rattle.pdl_semantics.specs.Flat.{Expr, Constant, Variable, Slice, Not, Binary, Cat, LessSigned, ZeroExtend, SignExtend, Choose, Op, Bind, CombRead, DelayedRead, Write, ReserveRead, ReserveWrite, Block, Release, Call, SpecCall, Verify, SpecCheck, SpecBarrier, AdviceBind, AdviceRead, AdviceWrite, Guard, Stmt, Lock, Plain, Queue, Bypass, Rename, Mem, Next, Ends, Goes, Forks, Branch, Stage, Pipe}
use Rattle.pdl_form.specs.Form.{Form}
use Rattle.pdl_form_types.specs.Same.{same_list, same_option, same_bool, same_number, number_of, same_expr, same_op, same_guard, same_stmt, same_kind, same_lock, same_mem, same_next, same_branch, same_stage, same_pipe, same_form}

-- a test that passes only where two are the same, and one that passes wherever they are
abbrev Tells : {X : Type 0} → (X → X → Bool) → Type 0
Tells {X} same = (x y : X) → same x y ≡ true → x ≡ y

abbrev Knows : {X : Type 0} → (X → X → Bool) → Type 0
Knows {X} same = (x : X) → same x x ≡ true

-- LISTS AND OPTIONS

list_tells : {X : Type 0} (same : X → X → Bool) → Tells same → Tells (same_list same)
list_tells same tells [] [] e = refl
list_tells same tells (x ∷ xs) (y ∷ ys) e =
    let parts = and_parts _ _ e in
    let first : x ≡ y = tells x y parts.0 in
    let rest : xs ≡ ys = list_tells same tells xs ys parts.1 in
    cc
list_tells same tells [] (y ∷ ys) e = absurd (false≢true e)
list_tells same tells (x ∷ xs) [] e = absurd (false≢true e)

list_knows : {X : Type 0} (same : X → X → Bool) → Knows same → Knows (same_list same)
list_knows same knows [] = refl
list_knows same knows (x ∷ xs) = and_from _ _ (knows x) (list_knows same knows xs)

option_tells : {X : Type 0} (same : X → X → Bool) → Tells same → Tells (same_option same)
option_tells same tells None None e = refl
option_tells same tells (Some x) (Some y) e = ap Some (tells x y e)
option_tells same tells None (Some y) e = absurd (false≢true e)
option_tells same tells (Some x) None e = absurd (false≢true e)

option_knows : {X : Type 0} (same : X → X → Bool) → Knows same → Knows (same_option same)
option_knows same knows None = refl
option_knows same knows (Some x) = knows x

bool_tells : Tells same_bool
bool_tells true true e = refl
bool_tells false false e = refl
bool_tells true false e = absurd (false≢true e)
bool_tells false true e = absurd (false≢true e)

bool_knows : Knows same_bool
bool_knows true = refl
bool_knows false = refl

number_tells : Tells same_number
number_tells m n e = eqb-true m n e

number_knows : Knows same_number
number_knows n = eq-eqb n n refl

bytes_tells : Tells bytes_eq
bytes_tells xs ys e = (bytes_eq-Decides xs ys).0 e

bytes_knows : Knows bytes_eq
bytes_knows xs = (bytes_eq-Decides xs xs).1 refl

-- OPERATORS

abbrev operator_at : ℕ → BinaryOp
operator_at n =
    if n == 0 then Add else
    if n == 1 then Sub else
    if n == 2 then Mul else
    if n == 3 then And else
    if n == 4 then Or else
    if n == 5 then Xor else
    if n == 6 then Equal else
    if n == 7 then Differ else
    if n == 8 then Less else
    if n == 9 then ShiftLeft else
    ShiftRight

operator_back : (op : BinaryOp) → operator_at (number_of op) ≡ op
operator_back Add = refl
operator_back Sub = refl
operator_back Mul = refl
operator_back And = refl
operator_back Or = refl
operator_back Xor = refl
operator_back Equal = refl
operator_back Differ = refl
operator_back Less = refl
operator_back ShiftLeft = refl
operator_back ShiftRight = refl

operator_tells : (a b : BinaryOp) → (number_of a == number_of b) ≡ true → a ≡ b
operator_tells a b e = sym (operator_back a) ∙ ap operator_at (eqb-true _ _ e) ∙ operator_back b

-- EXPRESSIONS

expr_tells : Tells same_expr
expr_tells (Constant w v) (Constant w' v') e0 =
    let s0 = and_parts _ _ e0 in
    let h0 : w ≡ w' = eqb-true _ _ s0.0 in
    let h1 : v ≡ v' = eqb-true _ _ s0.1 in
    cc
expr_tells (Variable x) (Variable x') e0 = ap Variable (eqb-true _ _ e0)
expr_tells (Slice x high low) (Slice x' high' low') e0 =
    let s0 = and_parts _ _ e0 in
    let s1 = and_parts _ _ s0.1 in
    let h0 : x ≡ x' = eqb-true _ _ s0.0 in
    let h1 : high ≡ high' = eqb-true _ _ s1.0 in
    let h2 : low ≡ low' = eqb-true _ _ s1.1 in
    cc
expr_tells (Not w a) (Not w' a') e0 =
    let s0 = and_parts _ _ e0 in
    let h0 : w ≡ w' = eqb-true _ _ s0.0 in
    let h1 : a ≡ a' = expr_tells _ _ s0.1 in
    cc
expr_tells (Binary op w a b) (Binary op' w' a' b') e0 =
    let s0 = and_parts _ _ e0 in
    let s1 = and_parts _ _ s0.1 in
    let s2 = and_parts _ _ s1.1 in
    let h0 : op ≡ op' = operator_tells _ _ s0.0 in
    let h1 : w ≡ w' = eqb-true _ _ s1.0 in
    let h2 : a ≡ a' = expr_tells _ _ s2.0 in
    let h3 : b ≡ b' = expr_tells _ _ s2.1 in
    cc
expr_tells (Cat a w b) (Cat a' w' b') e0 =
    let s0 = and_parts _ _ e0 in
    let s1 = and_parts _ _ s0.1 in
    let h0 : a ≡ a' = expr_tells _ _ s0.0 in
    let h1 : w ≡ w' = eqb-true _ _ s1.0 in
    let h2 : b ≡ b' = expr_tells _ _ s1.1 in
    cc
expr_tells (LessSigned w a b) (LessSigned w' a' b') e0 =
    let s0 = and_parts _ _ e0 in
    let s1 = and_parts _ _ s0.1 in
    let h0 : w ≡ w' = eqb-true _ _ s0.0 in
    let h1 : a ≡ a' = expr_tells _ _ s1.0 in
    let h2 : b ≡ b' = expr_tells _ _ s1.1 in
    cc
expr_tells (ZeroExtend wide a) (ZeroExtend wide' a') e0 =
    let s0 = and_parts _ _ e0 in
    let h0 : wide ≡ wide' = eqb-true _ _ s0.0 in
    let h1 : a ≡ a' = expr_tells _ _ s0.1 in
    cc
expr_tells (SignExtend w wide a) (SignExtend w' wide' a') e0 =
    let s0 = and_parts _ _ e0 in
    let s1 = and_parts _ _ s0.1 in
    let h0 : w ≡ w' = eqb-true _ _ s0.0 in
    let h1 : wide ≡ wide' = eqb-true _ _ s1.0 in
    let h2 : a ≡ a' = expr_tells _ _ s1.1 in
    cc
expr_tells (Choose c a b) (Choose c' a' b') e0 =
    let s0 = and_parts _ _ e0 in
    let s1 = and_parts _ _ s0.1 in
    let h0 : c ≡ c' = expr_tells _ _ s0.0 in
    let h1 : a ≡ a' = expr_tells _ _ s1.0 in
    let h2 : b ≡ b' = expr_tells _ _ s1.1 in
    cc
expr_tells (Constant _ _) _ e0 = absurd (false≢true e0)
expr_tells (Variable _) _ e0 = absurd (false≢true e0)
expr_tells (Slice _ _ _) _ e0 = absurd (false≢true e0)
expr_tells (Not _ _) _ e0 = absurd (false≢true e0)
expr_tells (Binary _ _ _ _) _ e0 = absurd (false≢true e0)
expr_tells (Cat _ _ _) _ e0 = absurd (false≢true e0)
expr_tells (LessSigned _ _ _) _ e0 = absurd (false≢true e0)
expr_tells (ZeroExtend _ _) _ e0 = absurd (false≢true e0)
expr_tells (SignExtend _ _ _) _ e0 = absurd (false≢true e0)
expr_tells (Choose _ _ _) _ e0 = absurd (false≢true e0)

expr_knows : Knows same_expr
expr_knows (Constant w v) = and_from _ _ (number_knows w) (number_knows v)
expr_knows (Variable x) = number_knows x
expr_knows (Slice x high low) = and_from _ _ (number_knows x) (and_from _ _ (number_knows high) (number_knows low))
expr_knows (Not w a) = and_from _ _ (number_knows w) (expr_knows a)
expr_knows (Binary op w a b) = and_from _ _ (number_knows (number_of op)) (and_from _ _ (number_knows w) (and_from _ _ (expr_knows a) (expr_knows b)))
expr_knows (Cat a w b) = and_from _ _ (expr_knows a) (and_from _ _ (number_knows w) (expr_knows b))
expr_knows (LessSigned w a b) = and_from _ _ (number_knows w) (and_from _ _ (expr_knows a) (expr_knows b))
expr_knows (ZeroExtend wide a) = and_from _ _ (number_knows wide) (expr_knows a)
expr_knows (SignExtend w wide a) = and_from _ _ (number_knows w) (and_from _ _ (number_knows wide) (expr_knows a))
expr_knows (Choose c a b) = and_from _ _ (expr_knows c) (and_from _ _ (expr_knows a) (expr_knows b))

-- STATEMENTS

op_tells : Tells same_op
op_tells (Bind x e) (Bind x' e') e0 =
    let s0 = and_parts _ _ e0 in
    let h0 : x ≡ x' = eqb-true _ _ s0.0 in
    let h1 : e ≡ e' = expr_tells _ _ s0.1 in
    cc
op_tells (CombRead x m a) (CombRead x' m' a') e0 =
    let s0 = and_parts _ _ e0 in
    let s1 = and_parts _ _ s0.1 in
    let h0 : x ≡ x' = eqb-true _ _ s0.0 in
    let h1 : m ≡ m' = eqb-true _ _ s1.0 in
    let h2 : a ≡ a' = eqb-true _ _ s1.1 in
    cc
op_tells (DelayedRead x m a) (DelayedRead x' m' a') e0 =
    let s0 = and_parts _ _ e0 in
    let s1 = and_parts _ _ s0.1 in
    let h0 : x ≡ x' = eqb-true _ _ s0.0 in
    let h1 : m ≡ m' = eqb-true _ _ s1.0 in
    let h2 : a ≡ a' = eqb-true _ _ s1.1 in
    cc
op_tells (Write m a e) (Write m' a' e') e0 =
    let s0 = and_parts _ _ e0 in
    let s1 = and_parts _ _ s0.1 in
    let h0 : m ≡ m' = eqb-true _ _ s0.0 in
    let h1 : a ≡ a' = eqb-true _ _ s1.0 in
    let h2 : e ≡ e' = expr_tells _ _ s1.1 in
    cc
op_tells (ReserveRead m a) (ReserveRead m' a') e0 =
    let s0 = and_parts _ _ e0 in
    let h0 : m ≡ m' = eqb-true _ _ s0.0 in
    let h1 : a ≡ a' = eqb-true _ _ s0.1 in
    cc
op_tells (ReserveWrite m a) (ReserveWrite m' a') e0 =
    let s0 = and_parts _ _ e0 in
    let h0 : m ≡ m' = eqb-true _ _ s0.0 in
    let h1 : a ≡ a' = eqb-true _ _ s0.1 in
    cc
op_tells (Block m a) (Block m' a') e0 =
    let s0 = and_parts _ _ e0 in
    let h0 : m ≡ m' = eqb-true _ _ s0.0 in
    let h1 : a ≡ a' = eqb-true _ _ s0.1 in
    cc
op_tells (Release m a) (Release m' a') e0 =
    let s0 = and_parts _ _ e0 in
    let h0 : m ≡ m' = eqb-true _ _ s0.0 in
    let h1 : a ≡ a' = eqb-true _ _ s0.1 in
    cc
op_tells (Call es) (Call es') e0 = ap Call (list_tells same_expr expr_tells _ _ e0)
op_tells (SpecCall es) (SpecCall es') e0 = ap SpecCall (list_tells same_expr expr_tells _ _ e0)
op_tells (Verify l es) (Verify l' es') e0 =
    let s0 = and_parts _ _ e0 in
    let h0 : l ≡ l' = bool_tells _ _ s0.0 in
    let h1 : es ≡ es' = list_tells same_expr expr_tells _ _ s0.1 in
    cc
op_tells SpecCheck SpecCheck e0 = refl
op_tells SpecBarrier SpecBarrier e0 = refl
op_tells (AdviceBind x e) (AdviceBind x' e') e0 =
    let s0 = and_parts _ _ e0 in
    let h0 : x ≡ x' = eqb-true _ _ s0.0 in
    let h1 : e ≡ e' = expr_tells _ _ s0.1 in
    cc
op_tells (AdviceRead x m a) (AdviceRead x' m' a') e0 =
    let s0 = and_parts _ _ e0 in
    let s1 = and_parts _ _ s0.1 in
    let h0 : x ≡ x' = eqb-true _ _ s0.0 in
    let h1 : m ≡ m' = eqb-true _ _ s1.0 in
    let h2 : a ≡ a' = eqb-true _ _ s1.1 in
    cc
op_tells (AdviceWrite m a e) (AdviceWrite m' a' e') e0 =
    let s0 = and_parts _ _ e0 in
    let s1 = and_parts _ _ s0.1 in
    let h0 : m ≡ m' = eqb-true _ _ s0.0 in
    let h1 : a ≡ a' = eqb-true _ _ s1.0 in
    let h2 : e ≡ e' = expr_tells _ _ s1.1 in
    cc
op_tells (Bind _ _) _ e0 = absurd (false≢true e0)
op_tells (CombRead _ _ _) _ e0 = absurd (false≢true e0)
op_tells (DelayedRead _ _ _) _ e0 = absurd (false≢true e0)
op_tells (Write _ _ _) _ e0 = absurd (false≢true e0)
op_tells (ReserveRead _ _) _ e0 = absurd (false≢true e0)
op_tells (ReserveWrite _ _) _ e0 = absurd (false≢true e0)
op_tells (Block _ _) _ e0 = absurd (false≢true e0)
op_tells (Release _ _) _ e0 = absurd (false≢true e0)
op_tells (Call _) _ e0 = absurd (false≢true e0)
op_tells (SpecCall _) _ e0 = absurd (false≢true e0)
op_tells (Verify _ _) _ e0 = absurd (false≢true e0)
op_tells SpecCheck _ e0 = absurd (false≢true e0)
op_tells SpecBarrier _ e0 = absurd (false≢true e0)
op_tells (AdviceBind _ _) _ e0 = absurd (false≢true e0)
op_tells (AdviceRead _ _ _) _ e0 = absurd (false≢true e0)
op_tells (AdviceWrite _ _ _) _ e0 = absurd (false≢true e0)

op_knows : Knows same_op
op_knows (Bind x e) = and_from _ _ (number_knows x) (expr_knows e)
op_knows (CombRead x m a) = and_from _ _ (number_knows x) (and_from _ _ (number_knows m) (number_knows a))
op_knows (DelayedRead x m a) = and_from _ _ (number_knows x) (and_from _ _ (number_knows m) (number_knows a))
op_knows (Write m a e) = and_from _ _ (number_knows m) (and_from _ _ (number_knows a) (expr_knows e))
op_knows (ReserveRead m a) = and_from _ _ (number_knows m) (number_knows a)
op_knows (ReserveWrite m a) = and_from _ _ (number_knows m) (number_knows a)
op_knows (Block m a) = and_from _ _ (number_knows m) (number_knows a)
op_knows (Release m a) = and_from _ _ (number_knows m) (number_knows a)
op_knows (Call es) = list_knows same_expr expr_knows es
op_knows (SpecCall es) = list_knows same_expr expr_knows es
op_knows (Verify l es) = and_from _ _ (bool_knows l) (list_knows same_expr expr_knows es)
op_knows SpecCheck = refl
op_knows SpecBarrier = refl
op_knows (AdviceBind x e) = and_from _ _ (number_knows x) (expr_knows e)
op_knows (AdviceRead x m a) = and_from _ _ (number_knows x) (and_from _ _ (number_knows m) (number_knows a))
op_knows (AdviceWrite m a e) = and_from _ _ (number_knows m) (and_from _ _ (number_knows a) (expr_knows e))

abbrev guard_of : ℕ → Bool → Guard
guard_of a0 a1 = record { var = a0; first = a1 }

guard_tells : Tells same_guard
guard_tells x y e0 =
    let s0 = and_parts _ _ e0 in
    let h0 : x.var ≡ y.var = eqb-true _ _ s0.0 in
    let h1 : x.first ≡ y.first = bool_tells _ _ s0.1 in
    let whole : guard_of x.var x.first ≡ guard_of y.var y.first = cc in
    whole

guard_knows : Knows same_guard
guard_knows x = and_from _ _ (number_knows x.var) (bool_knows x.first)

abbrev stmt_of : ℕ → List Guard → Op → Stmt
stmt_of a0 a1 a2 = record { stage = a0; guards = a1; op = a2 }

stmt_tells : Tells same_stmt
stmt_tells x y e0 =
    let s0 = and_parts _ _ e0 in
    let s1 = and_parts _ _ s0.1 in
    let h0 : x.stage ≡ y.stage = eqb-true _ _ s0.0 in
    let h1 : x.guards ≡ y.guards = list_tells same_guard guard_tells _ _ s1.0 in
    let h2 : x.op ≡ y.op = op_tells _ _ s1.1 in
    let whole : stmt_of x.stage x.guards x.op ≡ stmt_of y.stage y.guards y.op = cc in
    whole

stmt_knows : Knows same_stmt
stmt_knows x = and_from _ _ (number_knows x.stage) (and_from _ _ (list_knows same_guard guard_knows x.guards) (op_knows x.op))

-- MEMORIES

lock_tells : Tells same_lock
lock_tells Plain Plain e0 = refl
lock_tells (Queue n) (Queue n') e0 = ap Queue (eqb-true _ _ e0)
lock_tells (Bypass n) (Bypass n') e0 = ap Bypass (eqb-true _ _ e0)
lock_tells (Rename n) (Rename n') e0 = ap Rename (eqb-true _ _ e0)
lock_tells Plain _ e0 = absurd (false≢true e0)
lock_tells (Queue _) _ e0 = absurd (false≢true e0)
lock_tells (Bypass _) _ e0 = absurd (false≢true e0)
lock_tells (Rename _) _ e0 = absurd (false≢true e0)

lock_knows : Knows same_lock
lock_knows Plain = refl
lock_knows (Queue n) = number_knows n
lock_knows (Bypass n) = number_knows n
lock_knows (Rename n) = number_knows n

kind_tells : Tells same_kind
kind_tells Comb Comb e0 = refl
kind_tells Delayed Delayed e0 = refl
kind_tells Advisory Advisory e0 = refl
kind_tells Comb _ e0 = absurd (false≢true e0)
kind_tells Delayed _ e0 = absurd (false≢true e0)
kind_tells Advisory _ e0 = absurd (false≢true e0)

kind_knows : Knows same_kind
kind_knows Comb = refl
kind_knows Delayed = refl
kind_knows Advisory = refl

abbrev mem_of : ℕ → ℕ → MemKind → Lock → Mem
mem_of a0 a1 a2 a3 = record { width = a0; depth = a1; kind = a2; lock = a3 }

mem_tells : Tells same_mem
mem_tells x y e0 =
    let s0 = and_parts _ _ e0 in
    let s1 = and_parts _ _ s0.1 in
    let s2 = and_parts _ _ s1.1 in
    let h0 : x.width ≡ y.width = eqb-true _ _ s0.0 in
    let h1 : x.depth ≡ y.depth = eqb-true _ _ s1.0 in
    let h2 : x.kind ≡ y.kind = kind_tells _ _ s2.0 in
    let h3 : x.lock ≡ y.lock = lock_tells _ _ s2.1 in
    let whole : mem_of x.width x.depth x.kind x.lock ≡ mem_of y.width y.depth y.kind y.lock = cc in
    whole

mem_knows : Knows same_mem
mem_knows x = and_from _ _ (number_knows x.width) (and_from _ _ (number_knows x.depth) (and_from _ _ (kind_knows x.kind) (lock_knows x.lock)))

-- STAGES

next_tells : Tells same_next
next_tells Ends Ends e0 = refl
next_tells (Goes k) (Goes k') e0 = ap Goes (eqb-true _ _ e0)
next_tells (Forks x k l) (Forks x' k' l') e0 =
    let s0 = and_parts _ _ e0 in
    let s1 = and_parts _ _ s0.1 in
    let h0 : x ≡ x' = eqb-true _ _ s0.0 in
    let h1 : k ≡ k' = eqb-true _ _ s1.0 in
    let h2 : l ≡ l' = eqb-true _ _ s1.1 in
    cc
next_tells Ends _ e0 = absurd (false≢true e0)
next_tells (Goes _) _ e0 = absurd (false≢true e0)
next_tells (Forks _ _ _) _ e0 = absurd (false≢true e0)

next_knows : Knows same_next
next_knows Ends = refl
next_knows (Goes k) = number_knows k
next_knows (Forks x k l) = and_from _ _ (number_knows x) (and_from _ _ (number_knows k) (number_knows l))

abbrev branch_of : ℕ → Bool → Branch
branch_of a0 a1 = record { fork = a0; first = a1 }

branch_tells : Tells same_branch
branch_tells x y e0 =
    let s0 = and_parts _ _ e0 in
    let h0 : x.fork ≡ y.fork = eqb-true _ _ s0.0 in
    let h1 : x.first ≡ y.first = bool_tells _ _ s0.1 in
    let whole : branch_of x.fork x.first ≡ branch_of y.fork y.first = cc in
    whole

branch_knows : Knows same_branch
branch_knows x = and_from _ _ (number_knows x.fork) (bool_knows x.first)

abbrev stage_of : Next → List Branch → Option ℕ → Stage
stage_of a0 a1 a2 = record { next = a0; branches = a1; merges = a2 }

stage_tells : Tells same_stage
stage_tells x y e0 =
    let s0 = and_parts _ _ e0 in
    let s1 = and_parts _ _ s0.1 in
    let h0 : x.next ≡ y.next = next_tells _ _ s0.0 in
    let h1 : x.branches ≡ y.branches = list_tells same_branch branch_tells _ _ s1.0 in
    let h2 : x.merges ≡ y.merges = option_tells same_number number_tells _ _ s1.1 in
    let whole : stage_of x.next x.branches x.merges ≡ stage_of y.next y.branches y.merges = cc in
    whole

stage_knows : Knows same_stage
stage_knows x =
    and_from _ _ (next_knows x.next) (and_from _ _ (list_knows same_branch branch_knows x.branches) (option_knows same_number number_knows x.merges))

-- THE WHOLE

abbrev pipe_of : ℕ → List Mem → List Stmt → List Stage → List ℕ → List (Option ℕ) → List (Option ℕ) → Pipe
pipe_of a0 a1 a2 a3 a4 a5 a6 = record { vars = a0; mems = a1; stmts = a2; stages = a3; start = a4; reserves_at = a5; releases_at = a6 }

pipe_tells : Tells same_pipe
pipe_tells x y e0 =
    let s0 = and_parts _ _ e0 in
    let s1 = and_parts _ _ s0.1 in
    let s2 = and_parts _ _ s1.1 in
    let s3 = and_parts _ _ s2.1 in
    let s4 = and_parts _ _ s3.1 in
    let s5 = and_parts _ _ s4.1 in
    let h0 : x.vars ≡ y.vars = eqb-true _ _ s0.0 in
    let h1 : x.mems ≡ y.mems = list_tells same_mem mem_tells _ _ s1.0 in
    let h2 : x.stmts ≡ y.stmts = list_tells same_stmt stmt_tells _ _ s2.0 in
    let h3 : x.stages ≡ y.stages = list_tells same_stage stage_tells _ _ s3.0 in
    let h4 : x.start ≡ y.start = bytes_tells _ _ s4.0 in
    let h5 : x.reserves_at ≡ y.reserves_at = list_tells (same_option same_number) (option_tells same_number number_tells) _ _ s5.0 in
    let h6 : x.releases_at ≡ y.releases_at = list_tells (same_option same_number) (option_tells same_number number_tells) _ _ s5.1 in
    let whole : pipe_of x.vars x.mems x.stmts x.stages x.start x.reserves_at x.releases_at
    ≡ pipe_of y.vars y.mems y.stmts y.stages y.start y.reserves_at y.releases_at =
    cc in
    whole

pipe_knows : Knows same_pipe
pipe_knows x =
    and_from _ _ (number_knows x.vars)
    (and_from _ _ (list_knows same_mem mem_knows x.mems)
    (and_from _ _ (list_knows same_stmt stmt_knows x.stmts)
    (and_from _ _ (list_knows same_stage stage_knows x.stages)
    (and_from _ _ (bytes_knows x.start)
    (and_from _ _ (list_knows (same_option same_number) (option_knows same_number number_knows) x.reserves_at)
    (list_knows (same_option same_number) (option_knows same_number number_knows) x.releases_at))))))

abbrev form_of : Pipe → List ℕ → List (List ℕ) → Form
form_of a0 a1 a2 = record { pipe = a0; widths = a1; names = a2 }

form_tells : Tells same_form
form_tells x y e0 =
    let s0 = and_parts _ _ e0 in
    let s1 = and_parts _ _ s0.1 in
    let h0 : x.pipe ≡ y.pipe = pipe_tells _ _ s0.0 in
    let h1 : x.widths ≡ y.widths = bytes_tells _ _ s1.0 in
    let h2 : x.names ≡ y.names = list_tells bytes_eq bytes_tells _ _ s1.1 in
    let whole : form_of x.pipe x.widths x.names ≡ form_of y.pipe y.widths y.names = cc in
    whole

form_knows : Knows same_form
form_knows x = and_from _ _ (pipe_knows x.pipe) (and_from _ _ (bytes_knows x.widths) (list_knows bytes_eq bytes_knows x.names))

-- forms that pass the test are the same, and those that are the same pass
pub same_forms : (f g : Form) → same_form f g ≡ true → f ≡ g
same_forms f g e = form_tells f g e

-- two flat forms that are the same pass the test
pub forms_pass : (f g : Form) → f ≡ g → same_form f g ≡ true
forms_pass f g e = ap (same_form f) (sym e) ∙ form_knows f
