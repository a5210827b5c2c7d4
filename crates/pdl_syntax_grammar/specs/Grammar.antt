-- The grammar. `Rule value before after` says that the tokens `before` are a spelling of the value, and then `after`; each constructor is an alternative.
use Rattle.std.specs.Prelude.{◌≡◌, ℕ, suc, Bool, true, false, List, [], ◌∷◌, Option, Some, None}
use Rattle.pdl_semantics.specs.Tree.{Span, Ident, Number, Literal, BinaryOp, Add, Sub, Mul, And, Or, Xor, Equal, Differ, Less, ShiftLeft, ShiftRight, Expr, Constant, Variable, Slice, Not, Binary, Cat, LessSigned, ZeroExtend, SignExtend, Choose, Location, Kind, R, W, Stmt, Separator, CombRead, Bind, SpecCall, DelayedRead, Write, Reserve, Block, Release, If, Call, Verify, Update, SpecCheck, SpecBarrier, Stmts, Nil, Cons, Param, LockKind, Queue, Bypass, Rename, LockDecl, MemKind, Comb, Delayed, Advisory, Mem, Start, Pipe}
use Rattle.pdl_syntax_tokens.specs.declared.token.Mark.{Mark}
use Rattle.pdl_syntax_tokens.specs.declared.token.Mark.TheVariants as mark
use Rattle.pdl_syntax_tokens.specs.declared.token.TokenKind.{TokenKind}
use Rattle.pdl_syntax_tokens.specs.declared.token.TokenKind.TheVariants as kind
use Rattle.pdl_syntax_tokens.specs.Tokens.{Token, Row}

-- how a token is written, and where it stands
pub record Word : Type 0 where
  pub text : List ℕ
  pub span : Span

-- a token of a kind
abbrev pub on : Word → TokenKind → Token
on w k = record { kind = k; text = w.text; span = w.span }

-- a keyword or a symbol
abbrev pub at : Word → Mark → Token
at w m = on w (kind.Mark m)

-- ---- what words stand for

-- a name
abbrev pub ident : Word → Ident
ident x = record { name = x.text; span = x.span }

-- a number of this value
abbrev pub number : Word → ℕ → Number
number w n = record { value = n; span = w.span }

-- a literal of this width and value
abbrev pub literal : Word → ℕ → Option ℕ → Literal
literal w n v = record { width = n; value = v; span = w.span }

-- a location of a memory
abbrev pub location : Word → Word → Location
location m a = record { mem = ident m; address = ident a }

-- from the first of two places to the end of the second
abbrev pub across : Span → Span → Span
across a b = record { start = a.start; end = b.end; line = a.line }

-- the tokens of a location, and then others
abbrev pub location_row : Word → Word → Word → Word → Row → Row
location_row m o a c more = on m kind.Name ∷ at o mark.OpenSquare ∷ on a kind.Name ∷ at c mark.CloseSquare ∷ more

-- the tokens of a name and its type, and then others
abbrev pub type_row : Word → Word → Word → Word → Word → ℕ → Word → Row → Row
type_row x c u o w n g more = on x kind.Name ∷ at c mark.Colon ∷ at u mark.Uint ∷ at o mark.Less ∷ on w (kind.Number n) ∷ at g mark.Greater ∷ more

-- ---- values with commas between them, up to a closing mark, and it

-- values by a rule, one at least, with commas between them and the closing mark after the last
pub data Listed {A : Type 0} (Rule : A → Row → Row → Type 0) (close : Mark) : List A → Row → Row → Type 0 where
  last : {c : Word} {x : A} {a r : Row} → Rule x a (at c close ∷ r) → Listed Rule close (x ∷ []) a r
  further : {c : Word} {x : A} {xs : List A} {a b r : Row} → Rule x a (at c mark.Comma ∷ b) → Listed Rule close xs b r → Listed Rule close (x ∷ xs) a r

-- ---- expressions

-- the operator between operands that a mark is, if it is one
abbrev pub operator_of : Mark → Option BinaryOp
operator_of mark.Star = Some Mul
operator_of mark.Plus = Some Add
operator_of mark.Minus = Some Sub
operator_of mark.ShiftLeft = Some ShiftLeft
operator_of mark.ShiftRight = Some ShiftRight
operator_of mark.Less = Some Less
operator_of mark.Equal = Some Equal
operator_of mark.Differ = Some Differ
operator_of mark.Ampersand = Some And
operator_of mark.Caret = Some Xor
operator_of mark.Bar = Some Or
operator_of _ = None

-- how loosely an operator binds, from 0 up
abbrev pub loose : BinaryOp → ℕ
loose Mul = 0
loose Add = 1
loose Sub = 1
loose ShiftLeft = 2
loose ShiftRight = 2
loose Less = 3
loose Equal = 4
loose Differ = 4
loose And = 5
loose Xor = 6
loose Or = 7

-- how many kinds of binding there are
abbrev pub levels : ℕ
levels = 8

mutual
  -- at level 0 stand operands; at level n + 1 the operators of looseness n, which group to the left
  pub data Level : ℕ → Expr → Row → Row → Type 0 where
    constant : {w : Word} {n : ℕ} {v : Option ℕ} {r : Row} → Level 0 (Constant (literal w n v)) (on w (kind.Literal n v) ∷ r) r
    variable : {x : Word} {r : Row} → Level 0 (Variable (ident x)) (on x kind.Name ∷ r) r
    sliced : {x o h c l e : Word} {high low : ℕ} {r : Row} → Level 0 (Slice (ident x) (number h high) (number l low))
        (on x kind.Name ∷ at o mark.OpenSquare ∷ on h (kind.Number high) ∷ at c mark.Colon ∷ on l (kind.Number low) ∷ at e mark.CloseSquare ∷ r) r
    bracketed : {o c : Word} {e : Expr} {a r : Row} → Full e a (at c mark.CloseRound ∷ r) → Level 0 e (at o mark.OpenRound ∷ a) r
    inverted : {t : Word} {e : Expr} {a r : Row} → Level 0 e a r → Level 0 (Not e) (at t mark.Tilde ∷ a) r
    catenated : {w o c d : Word} {x y : Expr} {a b r : Row} → Full x a (at c mark.Comma ∷ b) → Full y b (at d mark.CloseRound ∷ r) →
        Level 0 (Cat x y) (at w mark.Cat ∷ at o mark.OpenRound ∷ a) r
    compared : {w o c d : Word} {x y : Expr} {a b r : Row} → Full x a (at c mark.Comma ∷ b) → Full y b (at d mark.CloseRound ∷ r) →
        Level 0 (LessSigned x y) (at w mark.LessSigned ∷ at o mark.OpenRound ∷ a) r
    extended : {z o c w d : Word} {n : ℕ} {e : Expr} {a r : Row} → Full e a (at c mark.Comma ∷ on w (kind.Number n) ∷ at d mark.CloseRound ∷ r) →
        Level 0 (ZeroExtend e (number w n)) (at z mark.ZeroExtend ∷ at o mark.OpenRound ∷ a) r
    sign_extended : {z o c w d : Word} {n : ℕ} {e : Expr} {a r : Row} → Full e a (at c mark.Comma ∷ on w (kind.Number n) ∷ at d mark.CloseRound ∷ r) →
        Level 0 (SignExtend e (number w n)) (at z mark.SignExtend ∷ at o mark.OpenRound ∷ a) r
    tighter : {n : ℕ} {e : Expr} {a r : Row} → Level n e a r → Level (suc n) e a r
    joined : {w : Word} {m : Mark} {op : BinaryOp} {x y : Expr} {a b r : Row} → operator_of m ≡ Some op
        → Level (suc (loose op)) x a (at w m ∷ b) → Level (loose op) y b r →
        Level (suc (loose op)) (Binary op x y) a r

  -- an expression: no choice, or one, whose arms are expressions, so choices group to the right
  pub data Full : Expr → Row → Row → Type 0 where
    whole : {e : Expr} {a r : Row} → Level levels e a r → Full e a r
    chosen : {q z : Word} {c x y : Expr} {a b d r : Row} → Level levels c a (at q mark.Question ∷ b) → Full x b (at z mark.Colon ∷ d) → Full y d r →
        Full (Choose c x y) a r

-- ---- statements

-- the mark of a kind
abbrev pub mark_of : Kind → Mark
mark_of R = mark.R
mark_of W = mark.W

-- statements before others
abbrev pub prepend : List Stmt → Stmts → Stmts
prepend [] more = more
prepend (s ∷ ss) more = Cons s (prepend ss more)

mutual
  -- an item of the grammar: one statement, or two, which is what `acquire` is
  pub data Item : List Stmt → Row → Row → Type 0 where
    separating : {w : Word} {r : Row} → Item (Separator w.span ∷ []) (at w mark.Separator ∷ r) r
    reading : {x q m o a c e : Word} {r : Row} → Item (CombRead (across x.span e.span) (ident x) (location m a) ∷ [])
        (on x kind.Name ∷ at q mark.Assign ∷ location_row m o a c (at e mark.Semicolon ∷ r)) r
    binding : {x q e : Word} {v : Expr} {b r : Row} → Full v b (at e mark.Semicolon ∷ r) → Item (Bind (across x.span e.span) (ident x) v ∷ [])
        (on x kind.Name ∷ at q mark.Assign ∷ b) r
    guessing : {x q w p e : Word} {args : List Expr} {b r : Row} → Listed Full mark.CloseRound args b (at e mark.Semicolon ∷ r) →
        Item (SpecCall (across x.span e.span) (ident x) args ∷ []) (on x kind.Name ∷ at q mark.Assign ∷ at w mark.SpecCall ∷ at p mark.OpenRound ∷ b) r
    fetching : {x q m o a c e : Word} {r : Row} → Item (DelayedRead (across x.span e.span) (ident x) (location m a) ∷ [])
        (on x kind.Name ∷ at q mark.Arrow ∷ location_row m o a c (at e mark.Semicolon ∷ r)) r
    writing : {m o a c q e : Word} {v : Expr} {b r : Row} → Full v b (at e mark.Semicolon ∷ r) → Item (Write (across m.span e.span) (location m a) v ∷ [])
        (location_row m o a c (at q mark.Arrow ∷ b)) r
    reserving : {w p m o a c q k z e : Word} {access : Kind} {r : Row} → Item (Reserve (across w.span e.span) (location m a) access ∷ [])
        (at w mark.Reserve ∷ at p mark.OpenRound
        ∷ location_row m o a c (at q mark.Comma ∷ at k (mark_of access) ∷ at z mark.CloseRound ∷ at e mark.Semicolon ∷ r)) r
    acquiring : {w p m o a c q k z e : Word} {access : Kind} {r : Row} →
        Item (Reserve (across w.span e.span) (location m a) access ∷ Block (across w.span e.span) (location m a) ∷ [])
        (at w mark.Acquire ∷ at p mark.OpenRound
        ∷ location_row m o a c (at q mark.Comma ∷ at k (mark_of access) ∷ at z mark.CloseRound ∷ at e mark.Semicolon ∷ r)) r
    blocking : {w p m o a c z e : Word} {r : Row} → Item (Block (across w.span e.span) (location m a) ∷ [])
        (at w mark.Block ∷ at p mark.OpenRound ∷ location_row m o a c (at z mark.CloseRound ∷ at e mark.Semicolon ∷ r)) r
    releasing : {w p m o a c z e : Word} {r : Row} → Item (Release (across w.span e.span) (location m a) ∷ [])
        (at w mark.Release ∷ at p mark.OpenRound ∷ location_row m o a c (at z mark.CloseRound ∷ at e mark.Semicolon ∷ r)) r
    branching : {w p z o e : Word} {v : Expr} {first : Stmts} {a b r : Row}
        → Full v a (at z mark.CloseRound ∷ at o mark.OpenBrace ∷ b) → Items first b (at e mark.CloseBrace ∷ r) →
        Item (If (across w.span e.span) v first Nil ∷ []) (at w mark.If ∷ at p mark.OpenRound ∷ a) r
    choosing : {w p z o c l q e : Word} {v : Expr} {first second : Stmts} {a b d r : Row} → Full v a (at z mark.CloseRound ∷ at o mark.OpenBrace ∷ b) →
        Items first b (at c mark.CloseBrace ∷ at l mark.Else ∷ at q mark.OpenBrace ∷ d) → Items second d (at e mark.CloseBrace ∷ r) →
        Item (If (across w.span e.span) v first second ∷ []) (at w mark.If ∷ at p mark.OpenRound ∷ a) r
    calling : {w p e : Word} {args : List Expr} {b r : Row}
        → Listed Full mark.CloseRound args b (at e mark.Semicolon ∷ r) → Item (Call (across w.span e.span) args ∷ [])
        (at w mark.Call ∷ at p mark.OpenRound ∷ b) r
    verifying : {w p g c e : Word} {args : List Expr} {b r : Row} → Listed Full mark.CloseRound args b (at e mark.Semicolon ∷ r) →
        Item (Verify (across w.span e.span) (ident g) args ∷ []) (at w mark.Verify ∷ at p mark.OpenRound ∷ on g kind.Name ∷ at c mark.Comma ∷ b) r
    updating : {w p g c e : Word} {args : List Expr} {b r : Row} → Listed Full mark.CloseRound args b (at e mark.Semicolon ∷ r) →
        Item (Update (across w.span e.span) (ident g) args ∷ []) (at w mark.Update ∷ at p mark.OpenRound ∷ on g kind.Name ∷ at c mark.Comma ∷ b) r
    checking : {w p z e : Word} {r : Row}
        → Item (SpecCheck (across w.span e.span) ∷ []) (at w mark.SpecCheck ∷ at p mark.OpenRound ∷ at z mark.CloseRound ∷ at e mark.Semicolon ∷ r) r
    barring : {w p z e : Word} {r : Row}
        → Item (SpecBarrier (across w.span e.span) ∷ []) (at w mark.SpecBarrier ∷ at p mark.OpenRound ∷ at z mark.CloseRound ∷ at e mark.Semicolon ∷ r) r

  -- items one after another
  pub data Items : Stmts → Row → Row → Type 0 where
    none : {r : Row} → Items Nil r r
    more : {ss : List Stmt} {rest : Stmts} {a b r : Row} → Item ss a b → Items rest b r → Items (prepend ss rest) a r

-- ---- texts

-- a parameter with its type
pub data Parameter : Param → Row → Row → Type 0 where
  parameter : {x c u o w g : Word} {n : ℕ} {r : Row} → Parameter (record { name = ident x; width = number w n }) (type_row x c u o w n g r) r

-- the mark of a kind of lock
abbrev pub lock_mark : LockKind → Mark
lock_mark Queue = mark.Queue
lock_mark Bypass = mark.Bypass
lock_mark Rename = mark.Rename

-- a lock, or none
pub data Lock : Option LockDecl → Row → Row → Type 0 where
  unlocked : {r : Row} → Lock None r r
  locked : {l q o s c : Word} {how : LockKind} {n : ℕ} {r : Row} → Lock (Some (record { kind = how; size = number s n }))
      (at l mark.Lock ∷ at q (lock_mark how) ∷ at o mark.OpenRound ∷ on s (kind.Number n) ∷ at c mark.CloseRound ∷ r) r

-- the mark of a memory that isn't advisory, by whether it answers in a later cycle
abbrev pub pace_mark : Bool → Mark
pace_mark true = mark.Delayed
pace_mark false = mark.Comb

-- the kind of a memory that isn't advisory, by whether it answers in a later cycle
abbrev pub pace_kind : Bool → MemKind
pace_kind true = Delayed
pace_kind false = Comb

-- a memory; an advisory one has no lock
pub data Memory : Mem → Row → Row → Type 0 where
  memory : {x c u o w g p d z k : Word} {n size : ℕ} (delayed : Bool) {lock : Option LockDecl} {a r : Row} → Lock lock a r →
      Memory (record { name = ident x; width = number w n; depth = number d size; kind = pace_kind delayed; lock = lock })
      (type_row x c u o w n g (at p mark.OpenSquare ∷ on d (kind.Number size) ∷ at z mark.CloseSquare ∷ at k (pace_mark delayed) ∷ a)) r
  advisory : {x c u o w g p d z k : Word} {n size : ℕ} {r : Row} →
      Memory (record { name = ident x; width = number w n; depth = number d size; kind = Advisory; lock = None })
      (type_row x c u o w n g (at p mark.OpenSquare ∷ on d (kind.Number size) ∷ at z mark.CloseSquare ∷ at k mark.Advisory ∷ r)) r

-- an argument of the first thread
pub data Given : Literal → Row → Row → Type 0 where
  given : {w : Word} {n : ℕ} {v : Option ℕ} {r : Row} → Given (literal w n v) (on w (kind.Literal n v) ∷ r) r

-- the start clause
pub data Starting : Start → Row → Row → Type 0 where
  starting : {s x o e : Word} {args : List Literal} {a r : Row} → Listed Given mark.CloseRound args a (at e mark.Semicolon ∷ r) →
      Starting (record { span = across s.span e.span; name = ident x; args = args }) (at s mark.Start ∷ on x kind.Name ∷ at o mark.OpenRound ∷ a) r

-- a whole text
pub data Text : Pipe → Row → Row → Type 0 where
  text : {k x o p q e : Word} {params : List Param} {mems : List Mem} {body : Stmts} {start : Start} {a b c d r : Row} →
      Listed Parameter mark.CloseRound params a (at p mark.OpenSquare ∷ b) → Listed Memory mark.CloseSquare mems b (at q mark.OpenBrace ∷ c) →
      Items body c (at e mark.CloseBrace ∷ d) → Starting start d r →
      Text (record { name = ident x; params = params; mems = mems; body = body; end = e.span; start = start })
      (at k mark.Pipe ∷ on x kind.Name ∷ at o mark.OpenRound ∷ a) r
