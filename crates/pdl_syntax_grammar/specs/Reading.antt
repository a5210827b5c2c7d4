-- How tokens are read: a value and the tokens after it, or the tokens from the one out of place on.
use Rattle.std.specs.Prelude.{ℕ, zero, suc, List, [], ◌∷◌, Option, Some, None, Result, Ok, Err, cond}
use Rattle.pdl_semantics.specs.Tree.{Span, Ident, Number, Expr, Location, Kind, Stmt, Separator, CombRead, Bind, SpecCall, DelayedRead, Write, Reserve, Block, Release, If, Call, Verify, Update, SpecCheck, SpecBarrier, Stmts, Nil, Param, LockKind, Queue, Bypass, Rename, LockDecl, MemKind, Comb, Delayed, Advisory, Mem, Start, Pipe}
use Rattle.pdl_syntax_tokens.specs.declared.token.Mark.TheVariants as mark
use Rattle.pdl_syntax_tokens.specs.declared.token.TokenKind.{TokenKind}
use Rattle.pdl_syntax_tokens.specs.declared.token.TokenKind.TheVariants as kind
use Rattle.pdl_syntax_tokens.specs.Cursor.{next, first_kind, first_span, first_name}
use Rattle.pdl_syntax_cursor.specs.Looks.{is_mark, begins_place}
use Rattle.pdl_syntax_tokens.specs.Tokens.{Row}
use Rattle.pdl_syntax_grammar.specs.Grammar.{across, prepend}
pub use Rattle.pdl_syntax_grammar.specs.ReadingExprs.{Outcome, Parser, and_then, ◌>>=◌, pure, refuse, name_by, number_by, first_literal, literal_by, access_by, goes_on, listed_by, slice_of, after_name, bracketed_expr, sized_expr, pair, Inner, inverted, catenated, compared, extended, sign_extended, operand_by, op_by, op_in, joined_expr, arms, choose, nothing_inside, expr, args}
unfoldable pub use Rattle.pdl_syntax_grammar.specs.ReadingExprs.{
  take,
  name,
  number,
  literal,
  access,
  index,
  place,
  ended,
  list_of,
  bounds,
  operand,
  chain,
  level,
  full,
  inside,
}

-- ---- statements

-- a read of a memory, after `x =`
abbrev pub read_of : Ident → Parser Stmt
read_of x = ended place >>= (λ v. pure (CombRead (across x.span v.1) x v.0))

-- a binding, after `x =`
abbrev pub bind_of : Parser Expr → Ident → Parser Stmt
bind_of full x = ended full >>= (λ v. pure (Bind (across x.span v.1) x v.0))

-- a guess, after `x = spec_call`
abbrev pub guess_of : ℕ → Ident → Parser Stmt
guess_of room x = do
  _ ← take mark.OpenRound
  v ← ended (args room)
  pure (SpecCall (across x.span v.1) x v.0)

-- a guess or a binding, after `x =`
abbrev pub computed_stmt : ℕ → Ident → Parser Stmt
computed_stmt room x = λ ts. cond (is_mark mark.SpecCall (first_kind ts)) (guess_of room x (next ts)) (bind_of (expr room) x ts)

-- after `x =`
abbrev pub assigned_stmt : ℕ → Ident → Parser Stmt
assigned_stmt room x = λ ts. cond (begins_place ts) (read_of x ts) (computed_stmt room x ts)

-- a read of a delayed memory, after `x <-`
abbrev pub fetch_of : Ident → Parser Stmt
fetch_of x = ended place >>= (λ v. pure (DelayedRead (across x.span v.1) x v.0))

-- the address that is written, after `m [`, up to the arrow
unfoldable pub address : Parser Ident
address = do
  a ← name
  _ ← take mark.CloseSquare
  _ ← take mark.Arrow
  pure a

-- after `m [`
abbrev pub write_of : Parser Expr → Ident → Parser Stmt
write_of full m = do
  a ← address
  v ← ended full
  pure (Write (across m.span v.1) (record { mem = m; address = a }) v.0)

-- by what comes after the name
abbrev pub named_by : ℕ → Ident → Option TokenKind → Parser Stmt
named_by room x (Some (kind.Mark mark.Assign)) = λ ts. assigned_stmt room x (next ts)
named_by room x (Some (kind.Mark mark.Arrow)) = λ ts. fetch_of x (next ts)
named_by room x (Some (kind.Mark mark.OpenSquare)) = λ ts. write_of (expr room) x (next ts)
named_by room x _ = refuse

-- after the name that a statement begins with
unfoldable pub named_stmt : ℕ → Ident → Parser Stmt
named_stmt room x = λ ts. named_by room x (first_kind ts) ts

-- what a location is reserved for, after it, and where the statement ends
unfoldable pub purpose : Parser (Kind × Span)
purpose = do
  _ ← take mark.Comma
  k ← access
  _ ← take mark.CloseRound
  e ← take mark.Semicolon
  pure (k, e)

-- a closing bracket and a semicolon, and where that stands
unfoldable pub closed : Parser Span
closed = do
  _ ← take mark.CloseRound
  e ← take mark.Semicolon
  pure e

-- a location and what it is reserved for, in brackets, and where the statement ends
unfoldable pub reserved_location : Parser (Location × Kind × Span)
reserved_location = do
  _ ← take mark.OpenRound
  l ← place
  p ← purpose
  pure (l, p.0, p.1)

-- a location in brackets, and where the statement ends
unfoldable pub held_location : Parser (Location × Span)
held_location = do
  _ ← take mark.OpenRound
  l ← place
  e ← closed
  pure (l, e)

-- a reservation, after its word
abbrev pub reserve_of : Span → Parser (List Stmt)
reserve_of s = reserved_location >>= (λ v. pure (Reserve (across s v.2) v.0 v.1 ∷ []))

-- a reservation and the wait for it, after their word
abbrev pub acquire_of : Span → Parser (List Stmt)
acquire_of s = reserved_location >>= (λ v. pure (Reserve (across s v.2) v.0 v.1 ∷ Block (across s v.2) v.0 ∷ []))

-- a wait, after its word
abbrev pub block_of : Span → Parser (List Stmt)
block_of s = held_location >>= (λ v. pure (Block (across s v.1) v.0 ∷ []))

-- a release, after its word
abbrev pub release_of : Span → Parser (List Stmt)
release_of s = held_location >>= (λ v. pure (Release (across s v.1) v.0 ∷ []))

-- a call, after its word
abbrev pub call_of : ℕ → Span → Parser (List Stmt)
call_of room s = do
  _ ← take mark.OpenRound
  v ← ended (args room)
  pure (Call (across s v.1) v.0 ∷ [])

-- a guess and arguments that it is held against, in brackets, and where the statement ends
unfoldable pub against : ℕ → Parser (Ident × List Expr × Span)
against room = do
  _ ← take mark.OpenRound
  g ← name
  _ ← take mark.Comma
  v ← ended (args room)
  pure (g, v.0, v.1)

-- the last test of a guess, after its word
abbrev pub verify_of : ℕ → Span → Parser (List Stmt)
verify_of room s = against room >>= (λ v. pure (Verify (across s v.2) v.0 v.1 ∷ []))

-- an update of a guess, after its word
abbrev pub update_of : ℕ → Span → Parser (List Stmt)
update_of room s = against room >>= (λ v. pure (Update (across s v.2) v.0 v.1 ∷ []))

-- empty brackets, and where the statement ends
unfoldable pub bare : Parser Span
bare = do
  _ ← take mark.OpenRound
  _ ← take mark.CloseRound
  e ← take mark.Semicolon
  pure e

-- a check, after its word
abbrev pub check_of : Span → Parser (List Stmt)
check_of s = bare >>= (λ e. pure (SpecCheck (across s e) ∷ []))

-- a barrier, after its word
abbrev pub barrier_of : Span → Parser (List Stmt)
barrier_of s = bare >>= (λ e. pure (SpecBarrier (across s e) ∷ []))

-- the statements of a branch and where its closing brace stands, after the opening one
abbrev pub branch : Parser Stmts → Parser (Stmts × Span)
branch items = do
  ss ← items
  e ← take mark.CloseBrace
  pure (ss, e)

-- the other branch, after the first one's closing brace: none where no `else` comes
abbrev pub otherwise : Parser Stmts → Span → Parser (Stmts × Span)
otherwise items end = λ ts. cond (is_mark mark.Else (first_kind ts)) ((take mark.OpenBrace >>= (λ _. branch items)) (next ts)) (Ok ((Nil, end), ts))

-- a condition, up to the brace after it
unfoldable pub condition : ℕ → Parser Expr
condition room = do
  _ ← take mark.OpenRound
  c ← expr room
  _ ← take mark.CloseRound
  _ ← take mark.OpenBrace
  pure c

-- an `if`, after its word
abbrev pub if_of : ℕ → Parser Stmts → Span → Parser (List Stmt)
if_of room items s = do
  c ← condition room
  first ← branch items
  second ← otherwise items first.1
  pure (If (across s second.1) c first.0 second.0 ∷ [])

-- one statement as an item
abbrev pub alone : Parser Stmt → Parser (List Stmt)
alone p = p >>= (λ s. pure (s ∷ []))

-- a statement on a lock, by what the first token is
abbrev pub locking_by : Option TokenKind → Parser (List Stmt)
locking_by (Some (kind.Mark mark.Reserve)) = λ ts. reserve_of (first_span ts) (next ts)
locking_by (Some (kind.Mark mark.Acquire)) = λ ts. acquire_of (first_span ts) (next ts)
locking_by (Some (kind.Mark mark.Block)) = λ ts. block_of (first_span ts) (next ts)
locking_by (Some (kind.Mark mark.Release)) = λ ts. release_of (first_span ts) (next ts)
locking_by _ = refuse

-- a statement on a lock
unfoldable pub locking : Parser (List Stmt)
locking = λ ts. locking_by (first_kind ts) ts

-- a statement that begins with a name
abbrev pub named_item : ℕ → Parser (List Stmt)
named_item room = λ ts. alone (named_stmt room (first_name ts)) (next ts)

-- by what the first token is
abbrev pub plain_by : ℕ → Option TokenKind → Parser (List Stmt)
plain_by room (Some kind.Name) = named_item room
plain_by room (Some (kind.Mark mark.Separator)) = λ ts. Ok (Separator (first_span ts) ∷ [], next ts)
plain_by room (Some (kind.Mark mark.Call)) = λ ts. call_of room (first_span ts) (next ts)
plain_by room (Some (kind.Mark mark.Verify)) = λ ts. verify_of room (first_span ts) (next ts)
plain_by room (Some (kind.Mark mark.Update)) = λ ts. update_of room (first_span ts) (next ts)
plain_by room (Some (kind.Mark mark.SpecCheck)) = λ ts. check_of (first_span ts) (next ts)
plain_by room (Some (kind.Mark mark.SpecBarrier)) = λ ts. barrier_of (first_span ts) (next ts)
plain_by room _ = locking

-- an item without statements inside
unfoldable pub plain : ℕ → Parser (List Stmt)
plain room = λ ts. plain_by room (first_kind ts) ts

-- an item of the grammar, by a reader of the statements inside
unfoldable pub item : ℕ → Parser Stmts → Parser (List Stmt)
item room items = λ ts. cond (is_mark mark.If (first_kind ts)) (if_of room items (first_span ts) (next ts)) (plain room ts)

-- by whether the closing brace comes
abbrev pub items_by : ℕ → Parser Stmts → Parser Stmts
items_by room items =
    λ ts. cond (is_mark mark.CloseBrace (first_kind ts)) (Ok (Nil, ts)) ((item room items >>= (λ s. items >>= (λ ss. pure (prepend s ss)))) ts)

-- items up to a closing brace, at most n, each with fewer inside
unfoldable pub items : ℕ → ℕ → Parser Stmts
items room zero = refuse
items room (suc n) = items_by room (items room n)

-- ---- texts

-- a type, after the name and the colon
unfoldable pub width : Parser Number
width = do
  _ ← take mark.Uint
  _ ← take mark.Less
  n ← number
  _ ← take mark.Greater
  pure n

-- a parameter
unfoldable pub param : Parser Param
param = do
  x ← name
  _ ← take mark.Colon
  w ← width
  pure (record { name = x; width = w })

-- by what the first token is
abbrev pub lock_kind_by : Option TokenKind → Parser LockKind
lock_kind_by (Some (kind.Mark mark.Queue)) = λ ts. Ok (Queue, next ts)
lock_kind_by (Some (kind.Mark mark.Bypass)) = λ ts. Ok (Bypass, next ts)
lock_kind_by (Some (kind.Mark mark.Rename)) = λ ts. Ok (Rename, next ts)
lock_kind_by _ = refuse

-- a kind of lock
unfoldable pub lock_kind : Parser LockKind
lock_kind = λ ts. lock_kind_by (first_kind ts) ts

-- a lock, after `lock`
abbrev pub lock_clause : Parser (Option LockDecl)
lock_clause = do
  k ← lock_kind
  _ ← take mark.OpenRound
  n ← number
  _ ← take mark.CloseRound
  pure (Some (record { kind = k; size = n }))

-- a lock or none
unfoldable pub lock : Parser (Option LockDecl)
lock = λ ts. cond (is_mark mark.Lock (first_kind ts)) (lock_clause (next ts)) (Ok (None, ts))

-- by what the first token is
abbrev pub pace_by : Option TokenKind → Parser MemKind
pace_by (Some (kind.Mark mark.Comb)) = λ ts. Ok (Comb, next ts)
pace_by (Some (kind.Mark mark.Delayed)) = λ ts. Ok (Delayed, next ts)
pace_by (Some (kind.Mark mark.Advisory)) = λ ts. Ok (Advisory, next ts)
pace_by _ = refuse

-- the kind of a memory
unfoldable pub pace : Parser MemKind
pace = λ ts. pace_by (first_kind ts) ts

-- what stands after the kind of a memory: a lock or none; an advisory one has none
abbrev pub lock_after : MemKind → Parser (Option LockDecl)
lock_after Comb = lock
lock_after Delayed = lock
lock_after Advisory = pure None

-- the kind of a memory, and its lock or none
unfoldable pub keeping : Parser (MemKind × Option LockDecl)
keeping = do
  d ← pace
  l ← lock_after d
  pure (d, l)

-- what stands after the name of a memory
unfoldable pub shape : Parser (Number × Number × MemKind × Option LockDecl)
shape = do
  _ ← take mark.Colon
  w ← width
  _ ← take mark.OpenSquare
  n ← number
  _ ← take mark.CloseSquare
  k ← keeping
  pure (w, n, k.0, k.1)

-- a memory
unfoldable pub mem : Parser Mem
mem = do
  x ← name
  s ← shape
  pure (record { name = x; width = s.0; depth = s.1; kind = s.2; lock = s.3 })

-- the start clause
unfoldable pub start : ℕ → Parser Start
start room = do
  s ← take mark.Start
  x ← name
  _ ← take mark.OpenRound
  args ← list_of literal mark.CloseRound room
  e ← take mark.Semicolon
  pure (record { span = across s e; name = x; args = args })

-- what stands before the body of a pipe
unfoldable pub pipe_head : ℕ → Parser (Ident × List Param × List Mem)
pipe_head room = do
  _ ← take mark.Pipe
  x ← name
  _ ← take mark.OpenRound
  params ← list_of param mark.CloseRound room
  _ ← take mark.OpenSquare
  mems ← list_of mem mark.CloseSquare room
  pure (x, params, mems)

-- the body of a pipe, where its closing brace stands, and the start clause
unfoldable pub pipe_rest : ℕ → Parser (Stmts × Span × Start)
pipe_rest room = do
  _ ← take mark.OpenBrace
  b ← branch (items room room)
  s ← start room
  pure (b.0, b.1, s)

-- a pipe and its start clause
unfoldable pub pipe : ℕ → Parser Pipe
pipe room = do
  h ← pipe_head room
  r ← pipe_rest room
  pure (record { name = h.0; params = h.1; mems = h.2; body = r.0; end = r.1; start = r.2 })

-- a text up to the end of the tokens
abbrev pub whole_of : Outcome Pipe → Result Pipe Row
whole_of (Ok (p, [])) = Ok p
whole_of (Ok (p, t ∷ ts)) = Err (t ∷ ts)
whole_of (Err ts) = Err ts

-- the pipe that the tokens are, fewer than `room`, or the tokens from the first out of place on
unfoldable pub parse : ℕ → Row → Result Pipe Row
parse room ts = whole_of (pipe room ts)
