-- The flat form that values of the program stand for.
use Rattle.std.specs.Prelude.{ℕ, List, [], ◌∷◌, ◌++◌, map, Option, Some, None}
use Rattle.pdl_syntax_tree.specs.View.{op_view, mem_kind_view}
use Rattle.pdl_form.specs.declared.form.FlatExpr as r_expr
use Rattle.pdl_form.specs.declared.form.FlatExpr.TheOpen.{FlatExpr-F}
use Rattle.pdl_form.specs.declared.form.Op as r_op
use Rattle.pdl_form.specs.declared.form.Op.TheVariants as r_ops
use Rattle.pdl_form.specs.declared.form.FlatGuard as r_guard
use Rattle.pdl_form.specs.declared.form.FlatStmt as r_stmt
use Rattle.pdl_form.specs.declared.form.Lock as r_lock
use Rattle.pdl_form.specs.declared.form.Lock.TheVariants as r_locks
use Rattle.pdl_form.specs.declared.form.FlatMem as r_mem
use Rattle.pdl_form.specs.declared.form.Next as r_next
use Rattle.pdl_form.specs.declared.form.Next.TheVariants as r_nexts
use Rattle.pdl_form.specs.declared.form.FlatBranch as r_branch
use Rattle.pdl_form.specs.declared.form.FlatBranches as r_branches
use Rattle.pdl_form.specs.declared.form.FlatStage as r_stage
use Rattle.pdl_semantics.specs.Flat as flat
use Rattle.pdl_semantics.specs.Flat.{Expr, Op, Guard, Stmt, Lock, Mem, Next, Branch, Stage}

-- the flat expression that an operator of the program stands for, with operands that are flat already
abbrev pub expr_step : FlatExpr-F Expr → Expr
expr_step (FlatExpr-F.Constant width value) = flat.Constant width value
expr_step (FlatExpr-F.Variable x) = flat.Variable x
expr_step (FlatExpr-F.Slice x high low) = flat.Slice x high low
expr_step (FlatExpr-F.Not width a) = flat.Not width a
expr_step (FlatExpr-F.Binary op width a b) = flat.Binary (op_view op) width a b
expr_step (FlatExpr-F.Cat a width b) = flat.Cat a width b
expr_step (FlatExpr-F.LessSigned width a b) = flat.LessSigned width a b
expr_step (FlatExpr-F.ZeroExtend wide a) = flat.ZeroExtend wide a
expr_step (FlatExpr-F.SignExtend width wide a) = flat.SignExtend width wide a
expr_step (FlatExpr-F.Choose c a b) = flat.Choose c a b

-- the flat expression that an expression of the program stands for
abbrev pub expr_view : r_expr.FlatExpr → Expr
expr_view = r_expr.fold-FlatExpr Expr expr_step

-- the flat expressions that expressions of the program stand for
abbrev pub exprs_view : List r_expr.FlatExpr → List Expr
exprs_view es = map expr_view es

-- what a statement of the program does, in the flat form
abbrev pub act_view : r_op.Op → Op
act_view (r_ops.Bind x e) = flat.Bind x (expr_view e)
act_view (r_ops.CombRead x m a) = flat.CombRead x m a
act_view (r_ops.DelayedRead x m a) = flat.DelayedRead x m a
act_view (r_ops.Write m a e) = flat.Write m a (expr_view e)
act_view (r_ops.ReserveRead m a) = flat.ReserveRead m a
act_view (r_ops.ReserveWrite m a) = flat.ReserveWrite m a
act_view (r_ops.Block m a) = flat.Block m a
act_view (r_ops.Release m a) = flat.Release m a
act_view (r_ops.Call args) = flat.Call (exprs_view args)
act_view (r_ops.SpecCall args) = flat.SpecCall (exprs_view args)
act_view (r_ops.Verify last args) = flat.Verify last (exprs_view args)
act_view r_ops.SpecCheck = flat.SpecCheck
act_view r_ops.SpecBarrier = flat.SpecBarrier
act_view (r_ops.AdviceBind x e) = flat.AdviceBind x (expr_view e)
act_view (r_ops.AdviceRead x m a) = flat.AdviceRead x m a
act_view (r_ops.AdviceWrite m a e) = flat.AdviceWrite m a (expr_view e)

-- the guard that a guard of the program stands for
abbrev pub guard_view : r_guard.FlatGuard → Guard
guard_view g = record { var = g.var; first = g.first }

-- the guards that guards of the program stand for
abbrev pub guards_view : List r_guard.FlatGuard → List Guard
guards_view gs = map guard_view gs

-- the statement that a statement of the program stands for
abbrev pub stmt_view : r_stmt.FlatStmt → Stmt
stmt_view s = record { stage = s.stage; guards = guards_view s.guards; op = act_view s.op }

-- the statements that statements of the program stand for
abbrev pub stmts_view : List r_stmt.FlatStmt → List Stmt
stmts_view ss = map stmt_view ss

-- the lock that a lock of the program stands for
abbrev pub lock_view : r_lock.Lock → Lock
lock_view r_locks.Plain = flat.Plain
lock_view (r_locks.Queue size) = flat.Queue size
lock_view (r_locks.Bypass size) = flat.Bypass size
lock_view (r_locks.Rename size) = flat.Rename size

-- the memory that a memory of the program stands for
abbrev pub mem_view : r_mem.FlatMem → Mem
mem_view m = record { width = m.width; depth = m.depth; kind = mem_kind_view m.kind; lock = lock_view m.lock }

-- the memories that memories of the program stand for
abbrev pub mems_view : List r_mem.FlatMem → List Mem
mems_view ms = map mem_view ms

-- where a stage of the program leads, in the flat form
abbrev pub next_view : r_next.Next → Next
next_view r_nexts.Ends = flat.Ends
next_view (r_nexts.Goes to) = flat.Goes to
next_view (r_nexts.Forks x first second) = flat.Forks x first second

-- the branch of a fork that a branch of the program stands for, where there is one
abbrev pub branch_view : Option r_branch.FlatBranch → List Branch
branch_view None = []
branch_view (Some b) = record { fork = b.fork; first = b.first } ∷ []

-- the branches that those of the program stand for
abbrev pub branches_view : r_branches.FlatBranches → List Branch
branches_view bs = branch_view bs.first ++ (branch_view bs.second ++ (branch_view bs.third ++ branch_view bs.fourth))

-- the stage that a stage of the program stands for
abbrev pub stage_view : r_stage.FlatStage → Stage
stage_view s = record { next = next_view s.next; branches = branches_view s.branches; merges = s.merges }

-- the stages that stages of the program stand for
abbrev pub stages_view : List r_stage.FlatStage → List Stage
stages_view ss = map stage_view ss

-- the names of the program's memories
abbrev pub mem_names : List r_mem.FlatMem → List (List ℕ)
mem_names ms = map (λ (m : r_mem.FlatMem). m.name) ms
