-- A source text as a tree: one constructor for each alternative of the grammar, with the places where its words stand.
use Rattle.std.specs.Prelude.{ℕ, List, [], ◌∷◌, Option}

-- where words stand in the source: the bytes from `start` up to `end`, counted from 0, the last one left out, and the line of the first, counted from 1
pub record Span : Type 0 where
  pub start : ℕ
  pub end : ℕ
  pub line : ℕ

-- a name, as its bytes, and where it stands
pub record Ident : Type 0 where
  pub name : List ℕ
  pub span : Span

-- a decimal number of 1 to 10 digits
pub record Number : Type 0 where
  pub value : ℕ
  pub span : Span

-- a literal; a value that no word has is none
pub record Literal : Type 0 where
  pub width : ℕ
  pub value : Option ℕ
  pub span : Span

-- an operator between two operands of one width
pub data BinaryOp : Type 0 where
  Add Sub Mul And Or Xor Equal Differ Less ShiftLeft ShiftRight : BinaryOp

-- an expression; brackets group and leave no trace
pub data Expr : Type 0 where
  Constant : (literal : Literal) → Expr
  Variable : (x : Ident) → Expr
  Slice : (x : Ident) (high low : Number) → Expr
  Not : (a : Expr) → Expr
  Binary : (op : BinaryOp) (a b : Expr) → Expr
  Cat : (a b : Expr) → Expr
  LessSigned : (a b : Expr) → Expr
  ZeroExtend : (a : Expr) (width : Number) → Expr
  SignExtend : (a : Expr) (width : Number) → Expr
  Choose : (c a b : Expr) → Expr

-- a location of a memory: its name, and the variable that holds the address
pub record Location : Type 0 where
  pub mem : Ident
  pub address : Ident

-- what a location is reserved for: to be read or to be written
pub data Kind : Type 0 where
  R W : Kind

-- a statement, with the span from its first word to its last; `acquire` is a Reserve and a Block with one span, and a missing `else` is an empty branch
mutual
  pub data Stmt : Type 0 where
    Separator : (span : Span) → Stmt
    CombRead : (span : Span) (x : Ident) (from : Location) → Stmt
    Bind : (span : Span) (x : Ident) (e : Expr) → Stmt
    SpecCall : (span : Span) (guess : Ident) (args : List Expr) → Stmt
    DelayedRead : (span : Span) (x : Ident) (from : Location) → Stmt
    Write : (span : Span) (to : Location) (e : Expr) → Stmt
    Reserve : (span : Span) (at : Location) (kind : Kind) → Stmt
    Block : (span : Span) (at : Location) → Stmt
    Release : (span : Span) (at : Location) → Stmt
    If : (span : Span) (condition : Expr) (yes otherwise : Stmts) → Stmt
    Call : (span : Span) (args : List Expr) → Stmt
    Verify : (span : Span) (guess : Ident) (args : List Expr) → Stmt
    Update : (span : Span) (guess : Ident) (args : List Expr) → Stmt
    SpecCheck : (span : Span) → Stmt
    SpecBarrier : (span : Span) → Stmt

  -- statements in text order
  pub data Stmts : Type 0 where
    Nil : Stmts
    Cons : (first : Stmt) (rest : Stmts) → Stmts

-- statements in a row
abbrev pub stmts_of : List Stmt → Stmts
stmts_of [] = Nil
stmts_of (s ∷ ss) = Cons s (stmts_of ss)

-- a parameter of the pipe, with its width in bits
pub record Param : Type 0 where
  pub name : Ident
  pub width : Number

-- the three kinds of lock
pub data LockKind : Type 0 where
  Queue Bypass Rename : LockKind

-- a memory's lock, with how many writes may be pending
pub record LockDecl : Type 0 where
  pub kind : LockKind
  pub size : Number

-- a memory answers in the same cycle, or in a later one, or in the same one but only as a hint: what an advisory memory says reaches guesses alone
pub data MemKind : Type 0 where
  Comb Delayed Advisory : MemKind

-- a memory: the width of its words in bits, how many words it has, its kind, and its lock or none
pub record Mem : Type 0 where
  pub name : Ident
  pub width : Number
  pub depth : Number
  pub kind : MemKind
  pub lock : Option LockDecl

-- the start clause: the pipe that it names and the first thread's arguments; its span begins at `start`
pub record Start : Type 0 where
  pub span : Span
  pub name : Ident
  pub args : List Literal

-- a whole source; `end` is where the `}` of the body stands
pub record Pipe : Type 0 where
  pub name : Ident
  pub params : List Param
  pub mems : List Mem
  pub body : Stmts
  pub end : Span
  pub start : Start
