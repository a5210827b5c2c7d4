-- Short words to write out a tree with its lines.
use Prim.Native.String.{String}
use Rattle.std.specs.Prelude.{ℕ, ◌+◌, List, [], ◌∷◌, Option, Some, None, codes, length}
use Rattle.pdl_semantics.specs.Tree.{Span, Ident, Number, Literal, Add, Expr, Constant, Variable, Slice, Binary, Location, Kind, Stmt, Separator, CombRead, Bind, SpecCall, DelayedRead, Write, Reserve, Block, Release, If, Call, Verify, Update, SpecCheck, SpecBarrier, stmts_of, Queue, LockDecl, Param, Mem, Pipe, Comb, Delayed, Advisory}

-- the byte 0 of a line
abbrev on_line : ℕ → Span
on_line k = record { start = 0; end = 0; line = k }

-- a name that stands on line k
abbrev pub ident : ℕ → String → Ident
ident k x = record { name = codes x; span = on_line k }

-- a number, on line 0
abbrev pub number : ℕ → Number
number n = record { value = n; span = on_line 0 }

-- a literal of this width and value
abbrev pub literal : ℕ → ℕ → Literal
literal width value = record { width = width; value = Some value; span = on_line 0 }

-- a literal as an expression
abbrev pub constant : ℕ → ℕ → Expr
constant width value = Constant (literal width value)

-- a variable as an expression
abbrev pub variable : String → Expr
variable x = Variable (ident 0 x)

-- the bits of a variable from `high` down to `low`
abbrev pub slice : String → ℕ → ℕ → Expr
slice x high low = Slice (ident 0 x) (number high) (number low)

-- the sum of two expressions
abbrev pub plus : Expr → Expr → Expr
plus a b = Binary Add a b

-- the location in a memory at an address
abbrev pub location : String → String → Location
location m a = record { mem = ident 0 m; address = ident 0 a }

-- STATEMENTS, each on the line that it is told

-- a statement, once it is told its line
abbrev pub Line : Type 0
Line = ℕ → Stmt

-- the separator of two stages
abbrev pub separator : Line
separator k = Separator (on_line k)

-- the binding of a variable to an expression
abbrev pub bind : String → Expr → Line
bind x e k = Bind (on_line k) (ident k x) e

-- a comb read of a location, which binds a variable
abbrev pub read : String → String → String → Line
read x m a k = CombRead (on_line k) (ident k x) (location m a)

-- the write of an expression's value to a location
abbrev pub write : String → String → Expr → Line
write m a e k = Write (on_line k) (location m a) e

-- the reservation of a location, to be read or to be written
abbrev pub reserve : String → String → Kind → Line
reserve m a kind k = Reserve (on_line k) (location m a) kind

-- the block of a location
abbrev pub block : String → String → Line
block m a k = Block (on_line k) (location m a)

-- the release of a location
abbrev pub release : String → String → Line
release m a k = Release (on_line k) (location m a)

-- the call of the next thread with its arguments
abbrev pub call : List Expr → Line
call args k = Call (on_line k) args

-- a delayed read of a location, which binds a variable
abbrev pub delayed_read : String → String → String → Line
delayed_read x m a k = DelayedRead (on_line k) (ident k x) (location m a)

-- the call of the next thread on a guess, which it names
abbrev pub spec_call : String → List Expr → Line
spec_call s args k = SpecCall (on_line k) (ident k s) args

-- the `verify` of a guess, with the right arguments
abbrev pub verify : String → List Expr → Line
verify s args k = Verify (on_line k) (ident k s) args

-- an `update` of a guess
abbrev pub update : String → List Expr → Line
update s args k = Update (on_line k) (ident k s) args

-- a `spec_check`
abbrev pub spec_check : Line
spec_check k = SpecCheck (on_line k)

-- a `spec_barrier`
abbrev pub spec_barrier : Line
spec_barrier k = SpecBarrier (on_line k)

-- statements on the lines from k on, one a line
abbrev pub from_line : ℕ → List Line → List Stmt
from_line k [] = []
from_line k (s ∷ ss) = s k ∷ from_line (k + 1) ss

-- an `if` on the line k, with its branches on the lines from k + 10 and from k + 20 on
abbrev pub choice : String → List Line → List Line → Line
choice g when otherwise k = If (on_line k) (variable g) (stmts_of (from_line (k + 10) when)) (stmts_of (from_line (k + 20) otherwise))

-- PIPES

-- a queue lock of this size
abbrev pub queue : ℕ → Option LockDecl
queue size = Some (record { kind = Queue; size = number size })

-- a parameter of this width, on line 1
abbrev pub param : String → ℕ → Param
param x width = record { name = ident 1 x; width = number width }

-- a comb memory on line k, with its width, depth and lock
abbrev pub comb : ℕ → String → ℕ → ℕ → Option LockDecl → Mem
comb k m width depth lock =
    record { name = ident k m; width = number width; depth = number depth; kind = Comb; lock = lock }

-- a delayed memory on line k, with its width, depth and lock
abbrev pub slow : ℕ → String → ℕ → ℕ → Option LockDecl → Mem
slow k m width depth lock =
    record { name = ident k m; width = number width; depth = number depth; kind = Delayed; lock = lock }

-- an advisory memory
abbrev pub advisory : ℕ → String → ℕ → ℕ → Mem
advisory k m width depth =
    record { name = ident k m; width = number width; depth = number depth; kind = Advisory; lock = None }

-- a pipe p with its parameters on line 1, its memories, its body from line 3 on, and its end and start clause on the lines after it
abbrev pub whole : List Param → List Mem → List Line → List Literal → Pipe
whole params mems body args =
    record {
      name = ident 1 "p";
      params = params;
      mems = mems;
      body = stmts_of (from_line 3 body);
      end = on_line (3 + length body);
      start = record { span = on_line (4 + length body); name = ident (4 + length body) "p"; args = args };
    }

-- a pipe with a parameter n of 4 bits, a locked memory m and a memory t without lock, each of 4 words of 8 bits, and this body
abbrev pub pipe : List Line → Pipe
pipe body = whole (param "n" 4 ∷ []) (comb 2 "m" 8 4 (queue 1) ∷ comb 2 "t" 8 4 None ∷ []) body (literal 4 0 ∷ [])
