-- What lets a pipe be lowered: each variable that it uses or defines is one of its table, and the widths and sizes that its text tells are in bounds, as its limits and rules want.
use Rattle.std.specs.Prelude.{◌≤◌, ◌<◌, List, [], ◌∷◌, IsTrue}
use Rattle.pdl_semantics.specs.Tree.{Ident, Expr, Constant, Variable, Slice, Not, Binary, Cat, LessSigned, ZeroExtend, SignExtend, Choose, Stmt, Separator, CombRead, Bind, SpecCall, DelayedRead, Write, Reserve, Block, Release, If, Call, Verify, Update, SpecCheck, SpecBarrier, Stmts, Nil, Cons, Param, Pipe}
use Rattle.pdl_semantics.specs.Flatten.{Var}
use Rattle.pdl_rules.specs.Typed.{is_named}
use Rattle.pdl_form_lower.specs.Sized.{AreSizedMems}
use Rattle.pdl_word.specs.Words.{widest}

-- the table has the variable
abbrev pub IsKnown : List Var → Ident → Type 0
IsKnown us x = IsTrue (is_named us x.name)

-- the table has the variables of an expression, and no literal, slice or extension in it is wider than the widest word
abbrev pub IsLowerable : List Var → Expr → Type 0
IsLowerable us (Constant l) = l.width ≤ widest
IsLowerable us (Variable x) = IsKnown us x
IsLowerable us (Slice x high low) = IsKnown us x × (high.value < widest) × (low.value < widest)
IsLowerable us (Not a) = IsLowerable us a
IsLowerable us (Binary op a b) = IsLowerable us a × IsLowerable us b
IsLowerable us (Cat a b) = IsLowerable us a × IsLowerable us b
IsLowerable us (LessSigned a b) = IsLowerable us a × IsLowerable us b
IsLowerable us (ZeroExtend a n) = (n.value ≤ widest) × IsLowerable us a
IsLowerable us (SignExtend a n) = (n.value ≤ widest) × IsLowerable us a
IsLowerable us (Choose c a b) = IsLowerable us c × (IsLowerable us a × IsLowerable us b)

-- the same of expressions
abbrev pub AreLowerable : List Var → List Expr → Type 0
AreLowerable us [] = Unit {0}
AreLowerable us (e ∷ es) = IsLowerable us e × AreLowerable us es

abbrev mutual
  -- the table has the variables of a statement, and no literal, slice or extension in it is wider than the widest word
  pub IsLowerableStmt : List Var → Stmt → Type 0
  IsLowerableStmt us (Separator _) = Unit {0}
  IsLowerableStmt us (CombRead _ x from) = IsKnown us x × IsKnown us from.address
  IsLowerableStmt us (Bind _ x e) = IsKnown us x × IsLowerable us e
  IsLowerableStmt us (SpecCall _ guess args) = AreLowerable us args
  IsLowerableStmt us (DelayedRead _ x from) = IsKnown us x × IsKnown us from.address
  IsLowerableStmt us (Write _ to e) = IsKnown us to.address × IsLowerable us e
  IsLowerableStmt us (Reserve _ at _) = IsKnown us at.address
  IsLowerableStmt us (Block _ at) = IsKnown us at.address
  IsLowerableStmt us (Release _ at) = IsKnown us at.address
  IsLowerableStmt us (If _ c when otherwise) = IsLowerable us c × (AreLowerableStmts us when × AreLowerableStmts us otherwise)
  IsLowerableStmt us (Call _ args) = AreLowerable us args
  IsLowerableStmt us (Verify _ guess args) = AreLowerable us args
  IsLowerableStmt us (Update _ guess args) = AreLowerable us args
  IsLowerableStmt us (SpecCheck _) = Unit {0}
  IsLowerableStmt us (SpecBarrier _) = Unit {0}

  -- the same of statements
  pub AreLowerableStmts : List Var → Stmts → Type 0
  AreLowerableStmts us Nil = Unit {0}
  AreLowerableStmts us (Cons s ss) = IsLowerableStmt us s × AreLowerableStmts us ss

-- the table has the parameters, and none of them is wider than the widest word
abbrev pub AreLowerableParams : List Var → List Param → Type 0
AreLowerableParams us [] = Unit {0}
AreLowerableParams us (a ∷ as') = IsKnown us a.name × (a.width.value ≤ widest) × AreLowerableParams us as'

-- a pipe can be lowered with this table of its variables
pub record IsLowerablePipe (us : List Var) (p : Pipe) : Type 0 where
  pub params : AreLowerableParams us p.params
  pub mems : AreSizedMems p.mems
  pub body : AreLowerableStmts us p.body
