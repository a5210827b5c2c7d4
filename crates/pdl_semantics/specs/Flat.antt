-- A pipe in flat form: its statements in text order, each with its stage and the guards that it stands under, where variables and memories are numbers.
use Rattle.std.specs.Prelude.{ℕ, ◌-◌, Bool, true, false, ◌&&◌, not, List, [], ◌∷◌, ◌++◌, Option, if◌then◌else◌, ◌==◌, slice_index, slice_index_or, length, replicate}
use Rattle.pdl_word.specs.Words
use Rattle.pdl_semantics.specs.Tree.{MemKind, Comb, Delayed, Advisory, BinaryOp, Add, Sub, Mul, And, Or, Xor, Equal, Differ, Less, ShiftLeft, ShiftRight}

-- an expression over numbered variables, with the widths of its parts: `width` is that of the operands, in `Constant` that of the value, and `wide` that of an extended value; in `Cat` it is that of b, the lower part
pub data Expr : Type 0 where
  Constant : (width value : ℕ) → Expr
  Variable : (x : ℕ) → Expr
  Slice : (x high low : ℕ) → Expr
  Not : (width : ℕ) (a : Expr) → Expr
  Binary : (op : BinaryOp) (width : ℕ) (a b : Expr) → Expr
  Cat : (a : Expr) (width : ℕ) (b : Expr) → Expr
  LessSigned : (width : ℕ) (a b : Expr) → Expr
  ZeroExtend : (wide : ℕ) (a : Expr) → Expr
  SignExtend : (width wide : ℕ) (a : Expr) → Expr
  Choose : (c a b : Expr) → Expr

-- an operator on two words of one width
abbrev pub operator_value : BinaryOp → ℕ → ℕ → ℕ → ℕ
operator_value Add w a b = Words.add w a b
operator_value Sub w a b = Words.sub w a b
operator_value Mul w a b = Words.mul w a b
operator_value And w a b = Words.and a b
operator_value Or w a b = Words.or a b
operator_value Xor w a b = Words.xor a b
operator_value Equal w a b = Words.equal a b
operator_value Differ w a b = Words.differ a b
operator_value Less w a b = Words.less a b
operator_value ShiftLeft w a b = Words.shl w a b
operator_value ShiftRight w a b = Words.shr w a b

-- the value of an expression where the variables have these values
abbrev pub value_of : Expr → List ℕ → ℕ
value_of (Constant w v) env = v
value_of (Variable x) env = slice_index env x
value_of (Slice x high low) env = Words.slice high low (slice_index env x)
value_of (Not w a) env = Words.complement w (value_of a env)
value_of (Binary op w a b) env = operator_value op w (value_of a env) (value_of b env)
value_of (Cat a w b) env = Words.cat w (value_of a env) (value_of b env)
value_of (LessSigned w a b) env = Words.lts w (value_of a env) (value_of b env)
value_of (ZeroExtend wide a) env = Words.zext (value_of a env)
value_of (SignExtend w wide a) env = Words.sext w wide (value_of a env)
value_of (Choose c a b) env = Words.mux (value_of c env) (value_of a env) (value_of b env)

-- the values of arguments
abbrev pub values_of : List Expr → List ℕ → List ℕ
values_of [] env = []
values_of (e ∷ es) env = value_of e env ∷ values_of es env

-- what a statement does, with the variable x that it binds, its memory m and the variable a of its address; an `if` on an expression binds its guard, and an update is a verify that isn't the last. The last three bind an advised variable, by an expression or by a read of an advisory memory, and write such a memory
pub data Op : Type 0 where
  Bind : (x : ℕ) (e : Expr) → Op
  CombRead : (x m a : ℕ) → Op
  DelayedRead : (x m a : ℕ) → Op
  Write : (m a : ℕ) (e : Expr) → Op
  ReserveRead : (m a : ℕ) → Op
  ReserveWrite : (m a : ℕ) → Op
  Block : (m a : ℕ) → Op
  Release : (m a : ℕ) → Op
  Call : (args : List Expr) → Op
  SpecCall : (args : List Expr) → Op
  Verify : (last : Bool) (args : List Expr) → Op
  SpecCheck : Op
  SpecBarrier : Op
  AdviceBind : (x : ℕ) (e : Expr) → Op
  AdviceRead : (x m a : ℕ) → Op
  AdviceWrite : (m a : ℕ) (e : Expr) → Op

-- a branch of an `if`, with the variable of its truth value: the first branch is taken where that is 1, the second where it isn't
pub record Guard : Type 0 where
  pub var : ℕ
  pub first : Bool

-- a statement with its stage and the guards that it stands under, the outermost first
pub record Stmt : Type 0 where
  pub stage : ℕ
  pub guards : List Guard
  pub op : Op

-- a memory's lock with how many writes may be pending, or none
pub data Lock : Type 0 where
  Plain : Lock
  Queue : (size : ℕ) → Lock
  Bypass : (size : ℕ) → Lock
  Rename : (size : ℕ) → Lock

-- whether there is a lock
abbrev pub has_lock : Lock → Bool
has_lock Plain = false
has_lock (Queue size) = true
has_lock (Bypass size) = true
has_lock (Rename size) = true

-- a memory, with the width of its words in bits and how many words it has
pub record Mem : Type 0 where
  pub width : ℕ
  pub depth : ℕ
  pub kind : MemKind
  pub lock : Lock

-- whether a memory's answers come in a later cycle
abbrev pub is_delayed : MemKind → Bool
is_delayed Comb = false
is_delayed Delayed = true
is_delayed Advisory = false

-- whether what a memory says reaches guesses alone
abbrev pub is_advisory : MemKind → Bool
is_advisory Comb = false
is_advisory Delayed = false
is_advisory Advisory = true

-- where a thread goes from a stage: out of the pipe, to one stage, or where x is 1 to the first stage, else to the second
pub data Next : Type 0 where
  Ends : Next
  Goes : (to : ℕ) → Next
  Forks : (x first second : ℕ) → Next

-- one of the two branches of the fork in this stage
pub record Branch : Type 0 where
  pub fork : ℕ
  pub first : Bool

-- a stage: where it leads, the branches that it stands in, the innermost first, and the fork stage whose branches meet in it
pub record Stage : Type 0 where
  pub next : Next
  pub branches : List Branch
  pub merges : Option ℕ

-- a pipe in flat form
pub record Pipe : Type 0 where
  -- how many variables there are: the parameters first, then bound variables and guards
  pub vars : ℕ
  pub mems : List Mem
  -- in text order
  pub stmts : List Stmt
  -- by their numbers
  pub stages : List Stage
  -- the first thread's arguments
  pub start : List ℕ
  -- for each memory the stage of its reserves, and that of its releases, where it has some
  pub reserves_at : List (Option ℕ)
  pub releases_at : List (Option ℕ)

-- whether each element passes the test
abbrev pub list_all : {X : Type 0} → (X → Bool) → List X → Bool
list_all test [] = true
list_all test (x ∷ xs) = test x && list_all test xs

-- whether a branch is taken where its truth value is v
abbrev pub takes_branch : Bool → ℕ → Bool
takes_branch first v = if first then v == 1 else not (v == 1)

-- whether all these branches are taken where the variables have these values
abbrev pub all_hold : List Guard → List ℕ → Bool
all_hold [] env = true
all_hold (g ∷ gs) env = takes_branch g.first (slice_index env g.var) && all_hold gs env

-- the variables' values when a thread begins
abbrev pub start_env : Pipe → List ℕ → List ℕ
start_env p args = args ++ replicate (p.vars - length args) 0

-- the words of a memory by their addresses
abbrev pub Array : Type 0
Array = ℕ → ℕ

-- the words of each memory, by the memories' numbers
abbrev pub Arrays : Type 0
Arrays = ℕ → Array

-- an image has a list of words for each memory, in declared order
abbrev pub arrays_of : List (List ℕ) → Arrays
arrays_of image m a = slice_index (slice_index_or image m []) a

-- the word of memory m at an address
abbrev pub word_at : Arrays → ℕ → ℕ → ℕ
word_at arrays m a = arrays m a

-- the words of a memory after one is written
abbrev pub with_value : Array → ℕ → ℕ → Array
with_value words a v b = if b == a then v else words b

-- the words with one more value written into memory m
abbrev pub with_word : Arrays → ℕ → ℕ → ℕ → Arrays
with_word arrays m a v n = if n == m then with_value (arrays m) a v else arrays n

-- a write that has reached its array
pub record Commit : Type 0 where
  pub mem : ℕ
  pub address : ℕ
  pub value : ℕ

-- the writes to one memory, in order
abbrev pub of_mem : ℕ → List Commit → List Commit
of_mem m [] = []
of_mem m (c ∷ cs) = if c.mem == m then c ∷ of_mem m cs else of_mem m cs

-- the arrays after these writes in order
abbrev pub after_commits : Arrays → List Commit → Arrays
after_commits arrays [] = arrays
after_commits arrays (c ∷ cs) = after_commits (with_word arrays c.mem c.address c.value) cs
