-- The tree that a value of the program stands for.
use Rattle.std.specs.Prelude.{List, map, Option, Some, None}
use Rattle.pdl_syntax_tree.specs.declared.tree.Span as r_span
use Rattle.pdl_syntax_tree.specs.declared.tree.Ident as r_ident
use Rattle.pdl_syntax_tree.specs.declared.tree.Number as r_number
use Rattle.pdl_syntax_tree.specs.declared.tree.Literal as r_literal
use Rattle.pdl_syntax_tree.specs.declared.tree.Location as r_location
use Rattle.pdl_syntax_tree.specs.declared.tree.BinaryOp as r_op
use Rattle.pdl_syntax_tree.specs.declared.tree.BinaryOp.TheVariants as r_ops
use Rattle.pdl_syntax_tree.specs.declared.tree.AccessKind as r_kind
use Rattle.pdl_syntax_tree.specs.declared.tree.AccessKind.TheVariants as r_kinds
use Rattle.pdl_syntax_tree.specs.declared.tree.Expr as r_expr
use Rattle.pdl_syntax_tree.specs.declared.tree.Expr.TheOpen.{Expr-F}
use Rattle.pdl_syntax_tree.specs.declared.tree.Stmt as r_stmt
use Rattle.pdl_syntax_tree.specs.declared.tree.Stmt.TheOpen.{Stmt-F}
use Rattle.pdl_syntax_tree.specs.declared.tree.Param as r_param
use Rattle.pdl_syntax_tree.specs.declared.tree.LockKind as r_lock_kind
use Rattle.pdl_syntax_tree.specs.declared.tree.LockKind.TheVariants as r_lock_kinds
use Rattle.pdl_syntax_tree.specs.declared.tree.LockDecl as r_lock
use Rattle.pdl_syntax_tree.specs.declared.tree.MemKind as r_mem_kind
use Rattle.pdl_syntax_tree.specs.declared.tree.MemKind.TheVariants as r_mem_kinds
use Rattle.pdl_syntax_tree.specs.declared.tree.Mem as r_mem
use Rattle.pdl_syntax_tree.specs.declared.tree.Start as r_start
use Rattle.pdl_syntax_tree.specs.declared.tree.Pipe as r_pipe
use Rattle.pdl_semantics.specs.Tree as tree
use Rattle.pdl_semantics.specs.Tree.{Span, Ident, Number, Literal, BinaryOp, Expr, Location, Kind, Stmt, Stmts, stmts_of, Param, LockKind, LockDecl, MemKind, Mem, Start, Pipe}

-- the span that a value of the program stands for
abbrev pub span_view : r_span.Span → Span
span_view s = record { start = s.start; end = s.end; line = s.line }

-- the name with its place that a value of the program stands for
abbrev pub ident_view : r_ident.Ident → Ident
ident_view x = record { name = x.name; span = span_view x.span }

-- the number with its place that a value of the program stands for
abbrev pub number_view : r_number.Number → Number
number_view n = record { value = n.value; span = span_view n.span }

-- the literal that a value of the program stands for
abbrev pub literal_view : r_literal.Literal → Literal
literal_view l = record { width = l.width; value = l.value; span = span_view l.span }

-- the location that a value of the program stands for
abbrev pub location_view : r_location.Location → Location
location_view l = record { mem = ident_view l.mem; address = ident_view l.address }

-- the operator that a value of the program stands for
abbrev pub op_view : r_op.BinaryOp → BinaryOp
op_view r_ops.Add = tree.Add
op_view r_ops.Sub = tree.Sub
op_view r_ops.Mul = tree.Mul
op_view r_ops.And = tree.And
op_view r_ops.Or = tree.Or
op_view r_ops.Xor = tree.Xor
op_view r_ops.Equal = tree.Equal
op_view r_ops.Differ = tree.Differ
op_view r_ops.Less = tree.Less
op_view r_ops.ShiftLeft = tree.ShiftLeft
op_view r_ops.ShiftRight = tree.ShiftRight

-- the operator that a value of the program stands for, if there is one
abbrev pub maybe_op_view : Option r_op.BinaryOp → Option BinaryOp
maybe_op_view (Some op) = Some (op_view op)
maybe_op_view None = None

-- the kind of access, `R` or `W`, that a value of the program stands for
abbrev pub kind_view : r_kind.AccessKind → Kind
kind_view r_kinds.R = tree.R
kind_view r_kinds.W = tree.W

-- the expression that one of the program stands for, by those that its parts stand for
abbrev pub expr_step : Expr-F Expr → Expr
expr_step (Expr-F.Constant l) = tree.Constant (literal_view l)
expr_step (Expr-F.Variable x) = tree.Variable (ident_view x)
expr_step (Expr-F.Slice x high low) = tree.Slice (ident_view x) (number_view high) (number_view low)
expr_step (Expr-F.Not a) = tree.Not a
expr_step (Expr-F.Binary op a b) = tree.Binary (op_view op) a b
expr_step (Expr-F.Cat a b) = tree.Cat a b
expr_step (Expr-F.LessSigned a b) = tree.LessSigned a b
expr_step (Expr-F.ZeroExtend a n) = tree.ZeroExtend a (number_view n)
expr_step (Expr-F.SignExtend a n) = tree.SignExtend a (number_view n)
expr_step (Expr-F.Choose c a b) = tree.Choose c a b

-- the expression that a value of the program stands for
abbrev pub expr_view : r_expr.Expr → Expr
expr_view = r_expr.fold-Expr Expr expr_step

-- the expressions that values of the program stand for
abbrev pub exprs_view : List r_expr.Expr → List Expr
exprs_view = map expr_view

-- the statement that a value of the program stands for, where those inside it are given
abbrev pub stmt_step : Stmt-F Stmt → Stmt
stmt_step (Stmt-F.Separator s) = tree.Separator (span_view s)
stmt_step (Stmt-F.CombRead s x l) = tree.CombRead (span_view s) (ident_view x) (location_view l)
stmt_step (Stmt-F.Bind s x e) = tree.Bind (span_view s) (ident_view x) (expr_view e)
stmt_step (Stmt-F.SpecCall s g args) = tree.SpecCall (span_view s) (ident_view g) (exprs_view args)
stmt_step (Stmt-F.DelayedRead s x l) = tree.DelayedRead (span_view s) (ident_view x) (location_view l)
stmt_step (Stmt-F.Write s l e) = tree.Write (span_view s) (location_view l) (expr_view e)
stmt_step (Stmt-F.Reserve s l k) = tree.Reserve (span_view s) (location_view l) (kind_view k)
stmt_step (Stmt-F.Block s l) = tree.Block (span_view s) (location_view l)
stmt_step (Stmt-F.Release s l) = tree.Release (span_view s) (location_view l)
stmt_step (Stmt-F.If s c a b) = tree.If (span_view s) (expr_view c) (stmts_of a) (stmts_of b)
stmt_step (Stmt-F.Call s args) = tree.Call (span_view s) (exprs_view args)
stmt_step (Stmt-F.Verify s g args) = tree.Verify (span_view s) (ident_view g) (exprs_view args)
stmt_step (Stmt-F.Update s g args) = tree.Update (span_view s) (ident_view g) (exprs_view args)
stmt_step (Stmt-F.SpecCheck s) = tree.SpecCheck (span_view s)
stmt_step (Stmt-F.SpecBarrier s) = tree.SpecBarrier (span_view s)

-- the statement that a value of the program stands for
abbrev pub stmt_view : r_stmt.Stmt → Stmt
stmt_view = r_stmt.fold-Stmt Stmt stmt_step

-- the statements that values of the program stand for
abbrev pub stmts_view : List r_stmt.Stmt → Stmts
stmts_view ss = stmts_of (map stmt_view ss)

-- the parameter that a value of the program stands for
abbrev pub param_view : r_param.Param → Param
param_view p = record { name = ident_view p.name; width = number_view p.width }

-- the kind of lock that a value of the program stands for
abbrev pub lock_kind_view : r_lock_kind.LockKind → LockKind
lock_kind_view r_lock_kinds.Queue = tree.Queue
lock_kind_view r_lock_kinds.Bypass = tree.Bypass
lock_kind_view r_lock_kinds.Rename = tree.Rename

-- the declared lock that a value of the program stands for
abbrev pub lock_view : r_lock.LockDecl → LockDecl
lock_view l = record { kind = lock_kind_view l.kind; size = number_view l.size }

-- the declared lock that a value of the program stands for, if there is one
abbrev pub maybe_lock_view : Option r_lock.LockDecl → Option LockDecl
maybe_lock_view (Some l) = Some (lock_view l)
maybe_lock_view None = None

-- the kind of memory that a value of the program stands for
abbrev pub mem_kind_view : r_mem_kind.MemKind → MemKind
mem_kind_view r_mem_kinds.Comb = tree.Comb
mem_kind_view r_mem_kinds.Delayed = tree.Delayed
mem_kind_view r_mem_kinds.Advisory = tree.Advisory

-- the memory that a value of the program stands for
abbrev pub mem_view : r_mem.Mem → Mem
mem_view m =
    record {
      name = ident_view m.name;
      width = number_view m.width;
      depth = number_view m.depth;
      kind = mem_kind_view m.kind;
      lock = maybe_lock_view m.lock;
    }

-- the start clause that a value of the program stands for
abbrev pub start_view : r_start.Start → Start
start_view s = record { span = span_view s.span; name = ident_view s.name; args = map literal_view s.args }

-- the pipe that a value of the program stands for
abbrev pub pipe_view : r_pipe.Pipe → Pipe
pipe_view p =
    record {
      name = ident_view p.name;
      params = map param_view p.params;
      mems = map mem_view p.mems;
      body = stmts_view p.body;
      end = span_view p.end;
      start = start_view p.start;
    }
