-- Whether two flat forms are the same.
use Rattle.std.specs.Prelude.{ℕ, Bool, true, false, ◌&&◌, ◌==◌, List, [], ◌∷◌, Option, Some, None, bytes_eq}
use Rattle.pdl_semantics.specs.Tree.{MemKind, Comb, Delayed, Advisory, BinaryOp, Add, Sub, Mul, And, Or, Xor, Equal, Differ, Less, ShiftLeft, ShiftRight}
use Rattle.pdl_semantics.specs.Flat.{Expr, Constant, Variable, Slice, Not, Binary, Cat, LessSigned, ZeroExtend, SignExtend, Choose, Op, Bind, CombRead, DelayedRead, Write, ReserveRead, ReserveWrite, Block, Release, Call, SpecCall, Verify, SpecCheck, SpecBarrier, AdviceBind, AdviceRead, AdviceWrite, Guard, Stmt, Lock, Plain, Queue, Bypass, Rename, Mem, Next, Ends, Goes, Forks, Branch, Stage, Pipe}
use Rattle.pdl_form.specs.Form.{Form}

-- whether two lists are the same, element by element
abbrev pub same_list : {X : Type 0} → (X → X → Bool) → List X → List X → Bool
same_list same [] [] = true
same_list same (x ∷ xs) (y ∷ ys) = same x y && same_list same xs ys
same_list same _ _ = false

-- both are missing, or both are there and the same
abbrev pub same_option : {X : Type 0} → (X → X → Bool) → Option X → Option X → Bool
same_option same None None = true
same_option same (Some x) (Some y) = same x y
same_option same _ _ = false

-- two truth values are the same
abbrev pub same_bool : Bool → Bool → Bool
same_bool true true = true
same_bool false false = true
same_bool _ _ = false

-- two numbers are the same
abbrev pub same_number : ℕ → ℕ → Bool
same_number m n = m == n

-- the operators by number
abbrev pub number_of : BinaryOp → ℕ
number_of Add = 0
number_of Sub = 1
number_of Mul = 2
number_of And = 3
number_of Or = 4
number_of Xor = 5
number_of Equal = 6
number_of Differ = 7
number_of Less = 8
number_of ShiftLeft = 9
number_of ShiftRight = 10

-- two expressions are the same
abbrev pub same_expr : Expr → Expr → Bool
same_expr (Constant w v) (Constant w' v') = (w == w') && (v == v')
same_expr (Constant _ _) _ = false
same_expr (Variable x) (Variable x') = x == x'
same_expr (Variable _) _ = false
same_expr (Slice x high low) (Slice x' high' low') = (x == x') && ((high == high') && (low == low'))
same_expr (Slice _ _ _) _ = false
same_expr (Not w a) (Not w' a') = (w == w') && same_expr a a'
same_expr (Not _ _) _ = false
same_expr (Binary op w a b) (Binary op' w' a' b') = (number_of op == number_of op') && ((w == w') && (same_expr a a' && same_expr b b'))
same_expr (Binary _ _ _ _) _ = false
same_expr (Cat a w b) (Cat a' w' b') = same_expr a a' && ((w == w') && same_expr b b')
same_expr (Cat _ _ _) _ = false
same_expr (LessSigned w a b) (LessSigned w' a' b') = (w == w') && (same_expr a a' && same_expr b b')
same_expr (LessSigned _ _ _) _ = false
same_expr (ZeroExtend wide a) (ZeroExtend wide' a') = (wide == wide') && same_expr a a'
same_expr (ZeroExtend _ _) _ = false
same_expr (SignExtend w wide a) (SignExtend w' wide' a') = (w == w') && ((wide == wide') && same_expr a a')
same_expr (SignExtend _ _ _) _ = false
same_expr (Choose c a b) (Choose c' a' b') = same_expr c c' && (same_expr a a' && same_expr b b')
same_expr (Choose _ _ _) _ = false

-- two statements do the same
abbrev pub same_op : Op → Op → Bool
same_op (Bind x e) (Bind x' e') = (x == x') && same_expr e e'
same_op (Bind _ _) _ = false
same_op (CombRead x m a) (CombRead x' m' a') = (x == x') && ((m == m') && (a == a'))
same_op (CombRead _ _ _) _ = false
same_op (DelayedRead x m a) (DelayedRead x' m' a') = (x == x') && ((m == m') && (a == a'))
same_op (DelayedRead _ _ _) _ = false
same_op (Write m a e) (Write m' a' e') = (m == m') && ((a == a') && same_expr e e')
same_op (Write _ _ _) _ = false
same_op (ReserveRead m a) (ReserveRead m' a') = (m == m') && (a == a')
same_op (ReserveRead _ _) _ = false
same_op (ReserveWrite m a) (ReserveWrite m' a') = (m == m') && (a == a')
same_op (ReserveWrite _ _) _ = false
same_op (Block m a) (Block m' a') = (m == m') && (a == a')
same_op (Block _ _) _ = false
same_op (Release m a) (Release m' a') = (m == m') && (a == a')
same_op (Release _ _) _ = false
same_op (Call es) (Call es') = same_list same_expr es es'
same_op (Call _) _ = false
same_op (SpecCall es) (SpecCall es') = same_list same_expr es es'
same_op (SpecCall _) _ = false
same_op (Verify l es) (Verify l' es') = same_bool l l' && same_list same_expr es es'
same_op (Verify _ _) _ = false
same_op SpecCheck SpecCheck = true
same_op SpecCheck _ = false
same_op SpecBarrier SpecBarrier = true
same_op SpecBarrier _ = false
same_op (AdviceBind x e) (AdviceBind x' e') = (x == x') && same_expr e e'
same_op (AdviceBind _ _) _ = false
same_op (AdviceRead x m a) (AdviceRead x' m' a') = (x == x') && ((m == m') && (a == a'))
same_op (AdviceRead _ _ _) _ = false
same_op (AdviceWrite m a e) (AdviceWrite m' a' e') = (m == m') && ((a == a') && same_expr e e')
same_op (AdviceWrite _ _ _) _ = false

-- two guards are the same
abbrev pub same_guard : Guard → Guard → Bool
same_guard g h = (g.var == h.var) && same_bool g.first h.first

-- two statements are the same, in stage, guards and what they do
abbrev pub same_stmt : Stmt → Stmt → Bool
same_stmt x y = (x.stage == y.stage) && (same_list same_guard x.guards y.guards && same_op x.op y.op)

-- two locks are of the same kind and size
abbrev pub same_lock : Lock → Lock → Bool
same_lock Plain Plain = true
same_lock Plain _ = false
same_lock (Queue n) (Queue n') = n == n'
same_lock (Queue _) _ = false
same_lock (Bypass n) (Bypass n') = n == n'
same_lock (Bypass _) _ = false
same_lock (Rename n) (Rename n') = n == n'
same_lock (Rename _) _ = false

-- two memories are of one kind
abbrev pub same_kind : MemKind → MemKind → Bool
same_kind Comb Comb = true
same_kind Delayed Delayed = true
same_kind Advisory Advisory = true
same_kind _ _ = false

-- two memories have the same width and depth, are of one kind and have the same lock
abbrev pub same_mem : Mem → Mem → Bool
same_mem x y = (x.width == y.width) && ((x.depth == y.depth) && (same_kind x.kind y.kind && same_lock x.lock y.lock))

-- two stages lead to the same
abbrev pub same_next : Next → Next → Bool
same_next Ends Ends = true
same_next Ends _ = false
same_next (Goes k) (Goes k') = k == k'
same_next (Goes _) _ = false
same_next (Forks x k l) (Forks x' k' l') = (x == x') && ((k == k') && (l == l'))
same_next (Forks _ _ _) _ = false

-- two branches are of the same fork, on the same side
abbrev pub same_branch : Branch → Branch → Bool
same_branch x y = (x.fork == y.fork) && same_bool x.first y.first

-- two stages lead to the same, in the same branches, and merge the same fork
abbrev pub same_stage : Stage → Stage → Bool
same_stage x y = same_next x.next y.next && (same_list same_branch x.branches y.branches && same_option same_number x.merges y.merges)

-- two pipes are the same
abbrev pub same_pipe : Pipe → Pipe → Bool
same_pipe p q =
    (p.vars == q.vars)
    && (same_list same_mem p.mems q.mems
    && (same_list same_stmt p.stmts q.stmts
    && (same_list same_stage p.stages q.stages
    && (bytes_eq p.start q.start
    && (same_list (same_option same_number) p.reserves_at q.reserves_at && same_list (same_option same_number) p.releases_at q.releases_at)))))

-- two flat forms are the same, in pipe, widths and names
abbrev pub same_form : Form → Form → Bool
same_form f g = same_pipe f.pipe g.pipe && (bytes_eq f.widths g.widths && same_list bytes_eq f.names g.names)
