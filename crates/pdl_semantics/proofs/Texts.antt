-- Short words to write a tree out; nothing stands anywhere in particular.
use Prim.Native.String.{String}
use Rattle.std.specs.Prelude.{ℕ, List, [], ◌∷◌, Option, Some, codes, None}
use Rattle.pdl_semantics.specs.Tree.{Span, Ident, Number, Literal, Add, Expr, Constant, Variable, Slice, Binary, Location, Kind, Stmt, Separator, CombRead, Bind, SpecCall, DelayedRead, Write, Reserve, Block, Release, If, Call, Verify, Update, SpecCheck, SpecBarrier, stmts_of, LockKind, LockDecl, Mem, Pipe, Comb, Delayed, Advisory}

-- the span of everything that is written out here
abbrev pub nowhere : Span
nowhere = record { start = 0; end = 0; line = 1 }

-- a name
abbrev pub ident : String → Ident
ident x = record { name = codes x; span = nowhere }

-- a number, as a tree has it
abbrev pub number : ℕ → Number
number n = record { value = n; span = nowhere }

-- a literal of this width and value
abbrev pub literal : ℕ → ℕ → Literal
literal width value = record { width = width; value = Some value; span = nowhere }

-- a literal as an expression
abbrev pub constant : ℕ → ℕ → Expr
constant width value = Constant (literal width value)

-- a variable as an expression
abbrev pub variable : String → Expr
variable x = Variable (ident x)

-- the bits of a variable from `high` down to `low`
abbrev pub slice : String → ℕ → ℕ → Expr
slice x high low = Slice (ident x) (number high) (number low)

-- the sum of two expressions
abbrev pub plus : Expr → Expr → Expr
plus a b = Binary Add a b

-- the location in a memory at an address
abbrev pub location : String → String → Location
location m a = record { mem = ident m; address = ident a }

-- the separator of two stages
abbrev pub separator : Stmt
separator = Separator nowhere

-- the binding of a variable to an expression
abbrev pub bind : String → Expr → Stmt
bind x e = Bind nowhere (ident x) e

-- a comb read of a location, which binds a variable
abbrev pub comb_read : String → String → String → Stmt
comb_read x m a = CombRead nowhere (ident x) (location m a)

-- a delayed read of a location, which binds a variable
abbrev pub delayed_read : String → String → String → Stmt
delayed_read x m a = DelayedRead nowhere (ident x) (location m a)

-- the write of an expression's value to a location
abbrev pub write : String → String → Expr → Stmt
write m a e = Write nowhere (location m a) e

-- the reservation of a location, to be read or to be written
abbrev pub reserve : String → String → Kind → Stmt
reserve m a kind = Reserve nowhere (location m a) kind

-- the block of a location
abbrev pub block : String → String → Stmt
block m a = Block nowhere (location m a)

-- the release of a location
abbrev pub release : String → String → Stmt
release m a = Release nowhere (location m a)

-- the call of the next thread with one argument
abbrev pub call : Expr → Stmt
call e = Call nowhere (e ∷ [])

-- the call of the next thread on a guess, with one argument
abbrev pub spec_call : String → Expr → Stmt
spec_call s e = SpecCall nowhere (ident s) (e ∷ [])

-- the `verify` of a guess, with the one right argument
abbrev pub verify : String → Expr → Stmt
verify s e = Verify nowhere (ident s) (e ∷ [])

-- an `update` of a guess, with one argument
abbrev pub update : String → Expr → Stmt
update g e = Update nowhere (ident g) (e ∷ [])

-- a `spec_check`
abbrev pub spec_check : Stmt
spec_check = SpecCheck nowhere

-- a `spec_barrier`
abbrev pub spec_barrier : Stmt
spec_barrier = SpecBarrier nowhere

-- an `if` on a condition, with the statements of its two branches
abbrev pub if_else : Expr → List Stmt → List Stmt → Stmt
if_else c first second = If nowhere c (stmts_of first) (stmts_of second)

-- a lock with its size
abbrev pub lock : LockKind → ℕ → Option LockDecl
lock kind size = Some (record { kind = kind; size = number size })

-- a comb memory and a delayed one of words of 8 bits
abbrev pub comb : String → ℕ → Option LockDecl → Mem
comb m depth with_lock =
    record { name = ident m; width = number 8; depth = number depth; kind = Comb; lock = with_lock }

-- a delayed memory of words of 8 bits
abbrev pub slow : String → ℕ → Option LockDecl → Mem
slow m depth with_lock =
    record { name = ident m; width = number 8; depth = number depth; kind = Delayed; lock = with_lock }

-- an advisory memory of words of 8 bits
abbrev pub advisory : String → ℕ → Mem
advisory m depth = record { name = ident m; width = number 8; depth = number depth; kind = Advisory; lock = None }

-- a pipe p with one parameter n of this width, started with 0
abbrev pub pipe : ℕ → List Mem → List Stmt → Pipe
pipe width mems body =
    record {
      name = ident "p";
      params = record { name = ident "n"; width = number width } ∷ [];
      mems = mems;
      body = stmts_of body;
      end = nowhere;
      start = record { span = nowhere; name = ident "p"; args = literal width 0 ∷ [] };
    }
