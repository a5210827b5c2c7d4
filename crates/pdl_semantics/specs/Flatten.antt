-- The flat form of a tree: names become numbers, each statement gets its stage and its guards, and the separators give the stage graph. Total; a tree that breaks a rule of the language gets a flat form that nobody uses.
use Rattle.std.specs.Prelude.{ℕ, suc, ◌+◌, ◌-◌, Bool, true, false, List, [], ◌∷◌, ◌++◌, Option, Some, None, unwrap_or, if◌then◌else◌, ◌==◌, nat_lt, bytes_eq, length, ◌||◌}
use Rattle.pdl_semantics.specs.Tree.{Literal, BinaryOp, Add, Sub, Mul, And, Or, Xor, Equal, Differ, Less, ShiftLeft, ShiftRight, Expr, Constant, Variable, Slice, Not, Binary, Cat, LessSigned, ZeroExtend, SignExtend, Choose, Kind, R, W, Stmt, Separator, CombRead, Bind, SpecCall, DelayedRead, Write, Reserve, Block, Release, If, Call, Verify, Update, SpecCheck, SpecBarrier, Stmts, Nil, Cons, Param, LockKind, Queue, Bypass, Rename, LockDecl, Mem, Pipe}
use Rattle.pdl_semantics.specs.Flat
use Rattle.pdl_semantics.specs.Stages.{is_reserve, is_release}
use Rattle.pdl_word.specs.Words.{widest}

-- a variable with its width, and whether it is advised; the guard of an `if` on an expression is a variable without name
pub record Var : Type 0 where
  pub name : List ℕ
  pub width : ℕ
  pub advised : Bool

-- the number of the first variable of this name, how many there are where there is none
abbrev pub var_of : List Var → List ℕ → ℕ
var_of [] x = 0
var_of (v ∷ vs) x = if bytes_eq v.name x then 0 else suc (var_of vs x)

-- the width of the variable of this name, 0 where there is none
abbrev pub var_width : List Var → List ℕ → ℕ
var_width [] x = 0
var_width (v ∷ vs) x = if bytes_eq v.name x then v.width else var_width vs x

-- the number of the first memory of this name, how many there are where there is none
abbrev pub mem_of : List Mem → List ℕ → ℕ
mem_of [] m = 0
mem_of (x ∷ xs) m = if bytes_eq x.name.name m then 0 else suc (mem_of xs m)

-- the width of the words of the memory of this name, 0 where there is none
abbrev pub mem_width : List Mem → List ℕ → ℕ
mem_width [] m = 0
mem_width (x ∷ xs) m = if bytes_eq x.name.name m then x.width.value else mem_width xs m

-- whether a memory is advisory
abbrev pub is_advisory_mem : List Mem → List ℕ → Bool
is_advisory_mem [] m = false
is_advisory_mem (x ∷ xs) m = if bytes_eq x.name.name m then Flat.is_advisory x.kind else is_advisory_mem xs m

-- ADVISED VARIABLES: those bound by a read of an advisory memory, and by an expression that uses one

-- whether the variable of this name is advised
abbrev pub is_advised_var : List Var → List ℕ → Bool
is_advised_var [] x = false
is_advised_var (v ∷ vs) x = if bytes_eq v.name x then v.advised else is_advised_var vs x

-- whether an expression uses an advised variable
abbrev pub is_advised : List Var → Expr → Bool
is_advised vs (Constant l) = false
is_advised vs (Variable x) = is_advised_var vs x.name
is_advised vs (Slice x high low) = is_advised_var vs x.name
is_advised vs (Not a) = is_advised vs a
is_advised vs (Binary op a b) = is_advised vs a || is_advised vs b
is_advised vs (Cat a b) = is_advised vs a || is_advised vs b
is_advised vs (LessSigned a b) = is_advised vs a || is_advised vs b
is_advised vs (ZeroExtend a width) = is_advised vs a
is_advised vs (SignExtend a width) = is_advised vs a
is_advised vs (Choose c a b) = is_advised vs c || (is_advised vs a || is_advised vs b)

-- EXPRESSIONS

-- the width of an operator's value, by its operands' width
abbrev pub op_width : BinaryOp → ℕ → ℕ
op_width Add w = w
op_width Sub w = w
op_width Mul w = w
op_width And w = w
op_width Or w = w
op_width Xor w = w
op_width Equal w = 1
op_width Differ w = 1
op_width Less w = 1
op_width ShiftLeft w = w
op_width ShiftRight w = w

-- the width of an expression; a slice of no bits, and bits side by side that are too many, count as one
abbrev pub width_of : List Var → Expr → ℕ
width_of vs (Constant l) = l.width
width_of vs (Variable x) = var_width vs x.name
width_of vs (Slice x high low) = if nat_lt high.value low.value then 1 else high.value + 1 - low.value
width_of vs (Not a) = width_of vs a
width_of vs (Binary op a b) = op_width op (width_of vs a)
width_of vs (Cat a b) = if nat_lt widest (width_of vs a + width_of vs b) then 1 else width_of vs a + width_of vs b
width_of vs (LessSigned a b) = 1
width_of vs (ZeroExtend a width) = width.value
width_of vs (SignExtend a width) = width.value
width_of vs (Choose c a b) = width_of vs a

-- an expression over the variables' numbers
abbrev pub flat_expr : List Var → Expr → Flat.Expr
flat_expr vs (Constant l) = Flat.Constant l.width (unwrap_or l.value 0)
flat_expr vs (Variable x) = Flat.Variable (var_of vs x.name)
flat_expr vs (Slice x high low) = Flat.Slice (var_of vs x.name) high.value low.value
flat_expr vs (Not a) = Flat.Not (width_of vs a) (flat_expr vs a)
flat_expr vs (Binary op a b) = Flat.Binary op (width_of vs a) (flat_expr vs a) (flat_expr vs b)
flat_expr vs (Cat a b) = Flat.Cat (flat_expr vs a) (width_of vs b) (flat_expr vs b)
flat_expr vs (LessSigned a b) = Flat.LessSigned (width_of vs a) (flat_expr vs a) (flat_expr vs b)
flat_expr vs (ZeroExtend a width) = Flat.ZeroExtend width.value (flat_expr vs a)
flat_expr vs (SignExtend a width) = Flat.SignExtend (width_of vs a) width.value (flat_expr vs a)
flat_expr vs (Choose c a b) = Flat.Choose (flat_expr vs c) (flat_expr vs a) (flat_expr vs b)

-- expressions over the variables' numbers
abbrev pub flat_exprs : List Var → List Expr → List Flat.Expr
flat_exprs vs [] = []
flat_exprs vs (e ∷ es) = flat_expr vs e ∷ flat_exprs vs es

-- A WALK OVER THE STATEMENTS

-- where a walk is: the variables defined so far, the stage, and the last stage that has begun
pub record Position : Type 0 where
  pub vars : List Var
  pub stage : ℕ
  pub begun : ℕ

-- the position with one more variable
abbrev pub with_var : List ℕ → ℕ → Bool → Position → Position
with_var x width advised at' = record at' { vars = at'.vars ++ record { name = x; width = width; advised = advised } ∷ [] }

-- the position in the stage that begins next
abbrev pub next_position : Position → Position
next_position at' = record at' { stage = suc at'.begun; begun = suc at'.begun }

-- the position back in the stage of an `if`
abbrev pub back_in : ℕ → Position → Position
back_in s at' = record at' { stage = s }

-- what f makes of the name, where the expression is a plain variable, else the rest
abbrev pub on_variable : {X : Type 0} → (List ℕ → X) → X → Expr → X
on_variable f rest (Constant l) = rest
on_variable f rest (Variable x) = f x.name
on_variable f rest (Slice x high low) = rest
on_variable f rest (Not a) = rest
on_variable f rest (Binary op a b) = rest
on_variable f rest (Cat a b) = rest
on_variable f rest (LessSigned a b) = rest
on_variable f rest (ZeroExtend a width) = rest
on_variable f rest (SignExtend a width) = rest
on_variable f rest (Choose c a b) = rest

-- the guard of a condition: the plain variable itself, else the variable of its own that the `if` binds
abbrev pub guard_of : List Var → Expr → ℕ
guard_of vs e = on_variable (var_of vs) (length vs) e

-- the position after a condition: one that is no plain variable has a variable of 1 bit of its own
abbrev pub with_guard : Expr → Position → Position
with_guard e at' = on_variable (λ x. at') (with_var [] 1 false at') e

abbrev mutual
  -- the position after a statement; a branch begins in the stage of its `if`
  pub past : List Mem → Stmt → Position → Position
  past ms (Separator _) at' = next_position at'
  past ms (CombRead _ x from) at' = with_var x.name (mem_width ms from.mem.name) (is_advisory_mem ms from.mem.name) at'
  past ms (Bind _ x e) at' = with_var x.name (width_of at'.vars e) (is_advised at'.vars e) at'
  past ms (DelayedRead _ x from) at' = with_var x.name (mem_width ms from.mem.name) false at'
  past ms (If _ c when otherwise) at' =
      back_in at'.stage (past_all ms otherwise (back_in at'.stage (past_all ms when (with_guard c at'))))
  past ms (SpecCall _ guess args) at' = at'
  past ms (Write _ to e) at' = at'
  past ms (Reserve _ at kind) at' = at'
  past ms (Block _ at) at' = at'
  past ms (Release _ at) at' = at'
  past ms (Call _ args) at' = at'
  past ms (Verify _ guess args) at' = at'
  past ms (Update _ guess args) at' = at'
  past ms (SpecCheck _) at' = at'
  past ms (SpecBarrier _) at' = at'

  -- the position after some statements, one after another
  pub past_all : List Mem → Stmts → Position → Position
  past_all ms Nil at' = at'
  past_all ms (Cons s ss) at' = past_all ms ss (past ms s at')

-- where the second branch of an `if` begins
abbrev pub at_otherwise : List Mem → Expr → Stmts → Position → Position
at_otherwise ms c when at' = back_in at'.stage (past_all ms when (with_guard c at'))

-- STATEMENTS

-- one flat statement with the stage of this place, under these guards
abbrev pub at_position : List Flat.Guard → Position → Flat.Op → List Flat.Stmt
at_position gs at' op = record { stage = at'.stage; guards = gs; op = op } ∷ []

-- an `if` on an expression binds its guard
abbrev pub binds_guard : List Flat.Guard → Position → Expr → List Flat.Stmt
binds_guard gs at' e = on_variable (λ x. []) (at_position gs at' (Flat.Bind (length at'.vars) (flat_expr at'.vars e))) e

-- the guards with one branch more
abbrev pub under : List Flat.Guard → List Var → Expr → Bool → List Flat.Guard
under gs vs c first = gs ++ record { var = guard_of vs c; first = first } ∷ []

-- a binding, by whether its expression is advised
abbrev pub bind_op : Bool → ℕ → Flat.Expr → Flat.Op
bind_op true x e = Flat.AdviceBind x e
bind_op false x e = Flat.Bind x e

-- a comb read, by whether its memory is advisory
abbrev pub read_op : Bool → ℕ → ℕ → ℕ → Flat.Op
read_op true x m a = Flat.AdviceRead x m a
read_op false x m a = Flat.CombRead x m a

-- a write, by whether its memory is advisory
abbrev pub write_op : Bool → ℕ → ℕ → Flat.Expr → Flat.Op
write_op true m a e = Flat.AdviceWrite m a e
write_op false m a e = Flat.Write m a e

-- a reservation in flat form, by its kind
abbrev pub reserve_op : Kind → ℕ → ℕ → Flat.Op
reserve_op R m a = Flat.ReserveRead m a
reserve_op W m a = Flat.ReserveWrite m a

abbrev mutual
  -- the flat statements of a statement, under these guards, at this place
  pub flat_stmt : List Mem → List Flat.Guard → Stmt → Position → List Flat.Stmt
  flat_stmt ms gs (Separator _) at' = []
  flat_stmt ms gs (CombRead _ x from) at' =
      at_position gs at' (read_op (is_advisory_mem ms from.mem.name) (length at'.vars) (mem_of ms from.mem.name) (var_of at'.vars from.address.name))
  flat_stmt ms gs (Bind _ x e) at' = at_position gs at' (bind_op (is_advised at'.vars e) (length at'.vars) (flat_expr at'.vars e))
  flat_stmt ms gs (SpecCall _ guess args) at' = at_position gs at' (Flat.SpecCall (flat_exprs at'.vars args))
  flat_stmt ms gs (DelayedRead _ x from) at' =
      at_position gs at' (Flat.DelayedRead (length at'.vars) (mem_of ms from.mem.name) (var_of at'.vars from.address.name))
  flat_stmt ms gs (Write _ to e) at' =
      at_position gs at' (write_op (is_advisory_mem ms to.mem.name) (mem_of ms to.mem.name) (var_of at'.vars to.address.name) (flat_expr at'.vars e))
  flat_stmt ms gs (Reserve _ at kind) at' =
      at_position gs at' (reserve_op kind (mem_of ms at.mem.name) (var_of at'.vars at.address.name))
  flat_stmt ms gs (Block _ at) at' = at_position gs at' (Flat.Block (mem_of ms at.mem.name) (var_of at'.vars at.address.name))
  flat_stmt ms gs (Release _ at) at' = at_position gs at' (Flat.Release (mem_of ms at.mem.name) (var_of at'.vars at.address.name))
  flat_stmt ms gs (If _ c when otherwise) at' =
      binds_guard gs at' c
      ++ flat_stmts ms (under gs at'.vars c true) when (with_guard c at')
      ++ flat_stmts ms (under gs at'.vars c false) otherwise (at_otherwise ms c when at')
  flat_stmt ms gs (Call _ args) at' = at_position gs at' (Flat.Call (flat_exprs at'.vars args))
  flat_stmt ms gs (Verify _ guess args) at' = at_position gs at' (Flat.Verify true (flat_exprs at'.vars args))
  flat_stmt ms gs (Update _ guess args) at' = at_position gs at' (Flat.Verify false (flat_exprs at'.vars args))
  flat_stmt ms gs (SpecCheck _) at' = at_position gs at' Flat.SpecCheck
  flat_stmt ms gs (SpecBarrier _) at' = at_position gs at' Flat.SpecBarrier

  -- the flat statements of some, one after another
  pub flat_stmts : List Mem → List Flat.Guard → Stmts → Position → List Flat.Stmt
  flat_stmts ms gs Nil at' = []
  flat_stmts ms gs (Cons s ss) at' = flat_stmt ms gs s at' ++ flat_stmts ms gs ss (past ms s at')

-- THE STAGE GRAPH

abbrev mutual
  -- how many stages begin in a statement
  pub separators_in : Stmt → ℕ
  separators_in (Separator _) = 1
  separators_in (If _ c when otherwise) = separators when + separators otherwise
  separators_in (CombRead _ x from) = 0
  separators_in (Bind _ x e) = 0
  separators_in (SpecCall _ guess args) = 0
  separators_in (DelayedRead _ x from) = 0
  separators_in (Write _ to e) = 0
  separators_in (Reserve _ at kind) = 0
  separators_in (Block _ at) = 0
  separators_in (Release _ at) = 0
  separators_in (Call _ args) = 0
  separators_in (Verify _ guess args) = 0
  separators_in (Update _ guess args) = 0
  separators_in (SpecCheck _) = 0
  separators_in (SpecBarrier _) = 0

  -- how many stages begin in some statements
  pub separators : Stmts → ℕ
  separators Nil = 0
  separators (Cons s ss) = separators_in s + separators ss

-- what some statements give: where the stage in which they begin leads, and the stages that begin in them
pub record Graph : Type 0 where
  pub next : Flat.Next
  pub later : List Flat.Stage

-- the stage that a branch enters first
abbrev pub entry : Flat.Next → ℕ
entry Flat.Ends = 0
entry (Flat.Goes to) = to
entry (Flat.Forks x a b) = 0

-- the first of these stages merges the fork
abbrev pub with_merge : ℕ → List Flat.Stage → List Flat.Stage
with_merge f [] = []
with_merge f (x ∷ xs) = record x { merges = Some f } ∷ xs

-- a branch of fork f, the first one or the second
abbrev pub side : ℕ → Bool → Flat.Branch
side f first = record { fork = f; first = first }

-- a new stage before the rest of the graph
abbrev pub graph_with_stage : List Flat.Branch → Position → Graph → Graph
graph_with_stage branches at' rest =
    record {
      next = Flat.Goes (suc at'.begun);
      later = record { next = rest.next; branches = branches; merges = None } ∷ rest.later;
    }

-- a fork on the variable x with these branches
abbrev pub graph_with_fork : ℕ → ℕ → Graph → Graph → Graph → Graph
graph_with_fork f x first second rest =
    record { next = Flat.Forks x (entry first.next) (entry second.next); later = first.later ++ second.later ++ with_merge f rest.later }

abbrev mutual
  -- the graph of a statement in these branches with the graph after it; the branches of a fork lead to the stage that begins after both, the merge
  pub graph_before : List Mem → List Flat.Branch → Stmt → Position → Graph → Graph
  graph_before ms branches (Separator _) at' rest = graph_with_stage branches at' rest
  graph_before ms branches (If _ c when otherwise) at' rest =
      if separators when + separators otherwise == 0
      then rest
      else
      (let merge = Flat.Goes (suc (at'.begun + separators when + separators otherwise)) in
      graph_with_fork at'.stage (guard_of at'.vars c)
      (graph ms (side at'.stage true ∷ branches) merge when (with_guard c at'))
      (graph ms (side at'.stage false ∷ branches) merge otherwise (at_otherwise ms c when at'))
      rest)
  graph_before ms branches (CombRead _ x from) at' rest = rest
  graph_before ms branches (Bind _ x e) at' rest = rest
  graph_before ms branches (SpecCall _ guess args) at' rest = rest
  graph_before ms branches (DelayedRead _ x from) at' rest = rest
  graph_before ms branches (Write _ to e) at' rest = rest
  graph_before ms branches (Reserve _ at kind) at' rest = rest
  graph_before ms branches (Block _ at) at' rest = rest
  graph_before ms branches (Release _ at) at' rest = rest
  graph_before ms branches (Call _ args) at' rest = rest
  graph_before ms branches (Verify _ guess args) at' rest = rest
  graph_before ms branches (Update _ guess args) at' rest = rest
  graph_before ms branches (SpecCheck _) at' rest = rest
  graph_before ms branches (SpecBarrier _) at' rest = rest

  -- the graph of some statements, one after another
  pub graph : List Mem → List Flat.Branch → Flat.Next → Stmts → Position → Graph
  graph ms branches exit Nil at' = record { next = exit; later = [] }
  graph ms branches exit (Cons s ss) at' = graph_before ms branches s at' (graph ms branches exit ss (past ms s at'))

-- THE WHOLE

-- the parameters as variables
abbrev pub params_of : List Param → List Var
params_of [] = []
params_of (x ∷ xs) = record { name = x.name.name; width = x.width.value; advised = false } ∷ params_of xs

-- a memory's lock in flat form, with its size
abbrev pub flat_lock : Option LockDecl → Flat.Lock
flat_lock None = Flat.Plain
flat_lock (Some l) = of_kind l.kind l.size.value
  where
    of_kind : LockKind → ℕ → Flat.Lock
    of_kind Queue n = Flat.Queue n
    of_kind Bypass n = Flat.Bypass n
    of_kind Rename n = Flat.Rename n

-- memories in flat form
abbrev pub mems_of : List Mem → List Flat.Mem
mems_of [] = []
mems_of (m ∷ ms) = record { width = m.width.value; depth = m.depth.value; kind = m.kind; lock = flat_lock m.lock } ∷ mems_of ms

-- the start arguments
abbrev pub start_of : List Literal → List ℕ
start_of [] = []
start_of (l ∷ ls) = unwrap_or l.value 0 ∷ start_of ls

-- where the body begins: the parameters stand, and stage 0 has begun
abbrev pub at_start : Pipe → Position
at_start p = record { vars = params_of p.params; stage = 0; begun = 0 }

-- the stages of a pipe: stage 0, and those that its separators begin
abbrev pub stages_of : Pipe → List Flat.Stage
stages_of p =
    let g = graph p.mems [] Flat.Ends p.body (at_start p) in
    record { next = g.next; branches = []; merges = None } ∷ g.later

-- the stage of the first statement of this kind, where there is one
abbrev pub first_stage : (Flat.Op → Bool) → List Flat.Stmt → Option ℕ
first_stage test [] = None
first_stage test (x ∷ xs) = if test x.op then Some x.stage else first_stage test xs

-- for each memory, of which the first has the number m, the stage of the first statement of this kind, where there is one
abbrev pub first_stages : (ℕ → Flat.Op → Bool) → List Flat.Stmt → ℕ → List Mem → List (Option ℕ)
first_stages test xs m [] = []
first_stages test xs m (x ∷ ms) = first_stage (test m) xs ∷ first_stages test xs (suc m) ms

-- the flat form of a pipe
abbrev pub flat : Pipe → Flat.Pipe
flat p =
    let stmts = flat_stmts p.mems [] p.body (at_start p) in
    record {
      vars = length (past_all p.mems p.body (at_start p)).vars;
      mems = mems_of p.mems;
      stmts = stmts;
      stages = stages_of p;
      start = start_of p.start.args;
      reserves_at = first_stages is_reserve stmts 0 p.mems;
      releases_at = first_stages is_release stmts 0 p.mems;
    }
