-- How the words, lists and expressions of a text are read: a value and the tokens after it, or the tokens from the one out of place on.
use Rattle.std.specs.Prelude.{ℕ, zero, suc, Bool, true, false, List, [], ◌∷◌, Option, Some, None, Result, Ok, Err, cond, nat_eq}
use Rattle.pdl_semantics.specs.Tree.{Span, Ident, Number, Literal, BinaryOp, Expr, Constant, Variable, Slice, Not, Binary, Cat, LessSigned, ZeroExtend, SignExtend, Choose, Location, Kind, R, W}
use Rattle.pdl_syntax_tokens.specs.declared.token.Mark.{Mark}
use Rattle.pdl_syntax_tokens.specs.declared.token.Mark.TheVariants as mark
use Rattle.pdl_syntax_tokens.specs.declared.token.TokenKind.{TokenKind}
use Rattle.pdl_syntax_tokens.specs.declared.token.TokenKind.TheVariants as kind
use Rattle.pdl_syntax_tokens.specs.Cursor.{next, first_kind, first_span, first_name}
use Rattle.pdl_syntax_cursor.specs.Looks.{is_mark}
use Rattle.pdl_syntax_tokens.specs.Tokens.{Row}
use Rattle.pdl_syntax_grammar.specs.Grammar.{operator_of, loose, levels}

-- ---- what every rule is made of

-- what comes of reading a value
abbrev pub Outcome : Type 0 → Type 0
Outcome A = Result (A × Row) Row

-- a way to read a value
abbrev pub Parser : Type 0 → Type 0
Parser A = Row → Outcome A

-- one reading after another, unless the first was refused
abbrev pub and_then : {A B : Type 0} → Outcome A → (A → Parser B) → Outcome B
and_then (Ok p) f = f p.0 p.1
and_then (Err ts) f = Err ts

-- the same of readers
infixl 10 ◌>>=◌
-- a reader, and after it one that its value tells, unless the first refused
abbrev pub ◌>>=◌ : {A B : Type 0} → Parser A → (A → Parser B) → Parser B
p >>= f = λ ts. and_then (p ts) f

-- a value from no tokens
abbrev pub pure : {A : Type 0} → A → Parser A
pure a = λ ts. Ok (a, ts)

-- no value: the first token is out of place
abbrev pub refuse : {A : Type 0} → Parser A
refuse = λ ts. Err ts

-- a keyword or a symbol, and where it stands
unfoldable pub take : Mark → Parser Span
take m = λ ts. cond (is_mark m (first_kind ts)) (Ok (first_span ts, next ts)) (Err ts)

-- by what the first token is
abbrev pub name_by : Option TokenKind → Parser Ident
name_by (Some kind.Name) = λ ts. Ok (first_name ts, next ts)
name_by _ = refuse

-- a name
unfoldable pub name : Parser Ident
name = λ ts. name_by (first_kind ts) ts

-- by what the first token is
abbrev pub number_by : Option TokenKind → Parser Number
number_by (Some (kind.Number n)) = λ ts. Ok (record { value = n; span = first_span ts }, next ts)
number_by _ = refuse

-- a number
unfoldable pub number : Parser Number
number = λ ts. number_by (first_kind ts) ts

-- the literal of a width and a value at the front
abbrev pub first_literal : ℕ → Option ℕ → Row → Literal
first_literal w v ts = record { width = w; value = v; span = first_span ts }

-- by what the first token is
abbrev pub literal_by : Option TokenKind → Parser Literal
literal_by (Some (kind.Literal w v)) = λ ts. Ok (first_literal w v ts, next ts)
literal_by _ = refuse

-- a literal
unfoldable pub literal : Parser Literal
literal = λ ts. literal_by (first_kind ts) ts

-- by what the first token is
abbrev pub access_by : Option TokenKind → Parser Kind
access_by (Some (kind.Mark mark.R)) = λ ts. Ok (R, next ts)
access_by (Some (kind.Mark mark.W)) = λ ts. Ok (W, next ts)
access_by _ = refuse

-- an `R` or a `W`
unfoldable pub access : Parser Kind
access = λ ts. access_by (first_kind ts) ts

-- a name in square brackets
unfoldable pub index : Parser Ident
index = do
  _ ← take mark.OpenSquare
  a ← name
  _ ← take mark.CloseSquare
  pure a

-- a location
unfoldable pub place : Parser Location
place = do
  m ← name
  a ← index
  pure (record { mem = m; address = a })

-- a value, and where the semicolon after it stands
unfoldable pub ended : {A : Type 0} → Parser A → Parser (A × Span)
ended p = do
  v ← p
  e ← take mark.Semicolon
  pure (v, e)

-- ---- values with commas between them

-- a comma: more comes; the closing mark: nothing more
abbrev pub goes_on : Mark → Option TokenKind → Option Bool
goes_on close k = cond (is_mark mark.Comma k) (Some true) (cond (is_mark close k) (Some false) None)

-- after a value, by whether more come
abbrev pub listed_by : {A : Type 0} → Parser (List A) → A → Option Bool → Parser (List A)
listed_by others x None = refuse
listed_by others x (Some false) = λ ts. Ok (x ∷ [], next ts)
listed_by others x (Some true) = λ ts. (others >>= (λ xs. pure (x ∷ xs))) (next ts)

-- at most n values
unfoldable pub list_of : {A : Type 0} → Parser A → Mark → ℕ → Parser (List A)
list_of p close zero = refuse
list_of p close (suc n) = p >>= (λ x ts. listed_by (list_of p close n) x (goes_on close (first_kind ts)) ts)

-- ---- expressions

-- the two numbers of a slice, after its bracket
unfoldable pub bounds : Parser (Number × Number)
bounds = do
  h ← number
  _ ← take mark.Colon
  l ← number
  _ ← take mark.CloseSquare
  pure (h, l)

-- a slice, after the name and the bracket
abbrev pub slice_of : Ident → Parser Expr
slice_of x = bounds >>= (λ b. pure (Slice x b.0 b.1))

-- a slice or a variable, after the name
abbrev pub after_name : Ident → Parser Expr
after_name x = λ ts. cond (is_mark mark.OpenSquare (first_kind ts)) (slice_of x (next ts)) (Ok (Variable x, ts))

-- what stands in round brackets, after the first
abbrev pub bracketed_expr : Parser Expr → Parser Expr
bracketed_expr full = do
  e ← full
  _ ← take mark.CloseRound
  pure e

-- an expression and a number, in brackets, after a function word
abbrev pub sized_expr : Parser Expr → Parser (Expr × Number)
sized_expr full = do
  _ ← take mark.OpenRound
  e ← full
  _ ← take mark.Comma
  n ← number
  _ ← take mark.CloseRound
  pure (e, n)

-- two expressions, in brackets, after a function word
abbrev pub pair : Parser Expr → Parser (Expr × Expr)
pair full = do
  _ ← take mark.OpenRound
  a ← full
  _ ← take mark.Comma
  b ← full
  _ ← take mark.CloseRound
  pure (a, b)

-- the readers of what stands inside an expression: an operand, or an expression
pub record Inner : Type 0 where
  pub operand : Parser Expr
  pub full : Parser Expr

-- what `~` inverts, after it
abbrev pub inverted : Inner → Parser Expr
inverted inner = inner.operand >>= (λ e. pure (Not e))

-- two expressions one after the other, after the word
abbrev pub catenated : Inner → Parser Expr
catenated inner = pair inner.full >>= (λ p. pure (Cat p.0 p.1))

-- a comparison of signed numbers, after its word
abbrev pub compared : Inner → Parser Expr
compared inner = pair inner.full >>= (λ p. pure (LessSigned p.0 p.1))

-- an extension by zeros, after its word
abbrev pub extended : Inner → Parser Expr
extended inner = sized_expr inner.full >>= (λ p. pure (ZeroExtend p.0 p.1))

-- an extension by the sign, after its word
abbrev pub sign_extended : Inner → Parser Expr
sign_extended inner = sized_expr inner.full >>= (λ p. pure (SignExtend p.0 p.1))

-- by what the first token is
abbrev pub operand_by : Inner → Option TokenKind → Parser Expr
operand_by inner (Some (kind.Literal w v)) = λ ts. Ok (Constant (first_literal w v ts), next ts)
operand_by inner (Some kind.Name) = λ ts. after_name (first_name ts) (next ts)
operand_by inner (Some (kind.Mark mark.OpenRound)) = λ ts. bracketed_expr inner.full (next ts)
operand_by inner (Some (kind.Mark mark.Tilde)) = λ ts. inverted inner (next ts)
operand_by inner (Some (kind.Mark mark.Cat)) = λ ts. catenated inner (next ts)
operand_by inner (Some (kind.Mark mark.LessSigned)) = λ ts. compared inner (next ts)
operand_by inner (Some (kind.Mark mark.ZeroExtend)) = λ ts. extended inner (next ts)
operand_by inner (Some (kind.Mark mark.SignExtend)) = λ ts. sign_extended inner (next ts)
operand_by inner _ = refuse

-- what stands between operators
unfoldable pub operand : Inner → Parser Expr
operand inner = λ ts. operand_by inner (first_kind ts) ts

-- the operator where it has this looseness
abbrev pub op_by : ℕ → Option BinaryOp → Option BinaryOp
op_by n (Some op) = cond (nat_eq (loose op) n) (Some op) None
op_by n None = None

-- an operator of this looseness
abbrev pub op_in : ℕ → Option TokenKind → Option BinaryOp
op_in n (Some (kind.Mark m)) = op_by n (operator_of m)
op_in n _ = None

-- after a left side, by the operator that comes
abbrev pub joined_expr : Parser Expr → (Expr → Parser Expr) → Expr → Option BinaryOp → Parser Expr
joined_expr p on_with x None = pure x
joined_expr p on_with x (Some op) = λ ts. (p >>= (λ y. on_with (Binary op x y))) (next ts)

-- at most m more operators of a looseness and their right sides
unfoldable pub chain : Parser Expr → ℕ → ℕ → Expr → Parser Expr
chain p n zero x = pure x
chain p n (suc m) x = λ ts. joined_expr p (chain p n m) x (op_in n (first_kind ts)) ts

-- at most `room` operators at each level up to n
unfoldable pub level : Parser Expr → ℕ → ℕ → Parser Expr
level p room zero = p
level p room (suc n) = level p room n >>= chain (level p room n) n room

-- the arms of a choice, after its `?`
abbrev pub arms : Parser Expr → Expr → Parser Expr
arms full c = do
  x ← full
  _ ← take mark.Colon
  y ← full
  pure (Choose c x y)

-- a choice, where its `?` comes
abbrev pub choose : Parser Expr → Expr → Parser Expr
choose full c = λ ts. cond (is_mark mark.Question (first_kind ts)) (arms full c (next ts)) (Ok (c, ts))

-- an expression, by the readers of what stands inside
unfoldable pub full : Inner → ℕ → Parser Expr
full inner room = level (operand inner) room levels >>= choose inner.full

-- no room for anything inside
abbrev pub nothing_inside : Inner
nothing_inside = record { operand = refuse; full = refuse }

-- what stands inside, of at most n tokens
unfoldable pub inside : ℕ → Inner
inside zero = nothing_inside
inside (suc n) = record { operand = operand (inside n); full = full (inside n) n }

-- an expression of at most `room` tokens
abbrev pub expr : ℕ → Parser Expr
expr room = full (inside room) room

-- expressions with commas between them, up to a closing bracket, and it
abbrev pub args : ℕ → Parser (List Expr)
args room = list_of (expr room) mark.CloseRound room
