-- The parts of a place that rules look at.
use Rattle.std.specs.Prelude.{Bool, false, ◌||◌, List, [], ◌∷◌, Option, Some, None}
use Rattle.std.specs.List.{list_any}
use Rattle.pdl_semantics.specs.Tree.{Ident, Literal, Expr, Constant, Variable, Slice, Not, Binary, Cat, LessSigned, ZeroExtend, SignExtend, Choose, Location, Stmt, Separator, CombRead, Bind, SpecCall, DelayedRead, Write, Reserve, Block, Release, If, Call, Verify, Update, SpecCheck, SpecBarrier, Stmts}
use Rattle.pdl_rules.specs.Places.{Place, Parameter, Memory, Statement, End, StartClause, at_statement}

-- whether an expression or a part of it passes the test
abbrev pub some_part : (Expr → Bool) → Expr → Bool
some_part test (Constant l) = test (Constant l)
some_part test (Variable x) = test (Variable x)
some_part test (Slice x high low) = test (Slice x high low)
some_part test (Not a) = test (Not a) || some_part test a
some_part test (Binary op a b) = test (Binary op a b) || (some_part test a || some_part test b)
some_part test (Cat a b) = test (Cat a b) || (some_part test a || some_part test b)
some_part test (LessSigned a b) = test (LessSigned a b) || (some_part test a || some_part test b)
some_part test (ZeroExtend a n) = test (ZeroExtend a n) || some_part test a
some_part test (SignExtend a n) = test (SignExtend a n) || some_part test a
some_part test (Choose c a b) = test (Choose c a b) || (some_part test c || (some_part test a || some_part test b))

-- THE PARTS OF A STATEMENT

-- the expressions at a statement: its value or its condition alone, or its arguments
pub data Expressions : Type 0 where
  NoExpressions : Expressions
  One : (e : Expr) → Expressions
  Arguments : (es : List Expr) → Expressions

-- the parts of a statement: the names that it gives or verifies, its location, its expressions, and its branches
pub record StmtParts : Type 0 where
  pub variable : Option Ident  -- that it binds
  pub guess : Option Ident  -- that it makes
  pub verified : Option Ident  -- the guess that it verifies or replaces
  pub location : Option Location
  pub expressions : Expressions
  pub branches : List Stmts  -- what stands inside it

-- the parts of a statement that has none
abbrev pub no_parts : StmtParts
no_parts = record { variable = None; guess = None; verified = None; location = None; expressions = NoExpressions; branches = [] }

-- the parts of a statement
abbrev pub parts_of : Stmt → StmtParts
parts_of (Separator _) = no_parts
parts_of (CombRead _ x at) = record no_parts { variable = Some x; location = Some at }
parts_of (Bind _ x e) = record no_parts { variable = Some x; expressions = One e }
parts_of (SpecCall _ g args) = record no_parts { guess = Some g; expressions = Arguments args }
parts_of (DelayedRead _ x at) = record no_parts { variable = Some x; location = Some at }
parts_of (Write _ at e) = record no_parts { location = Some at; expressions = One e }
parts_of (Reserve _ at _) = record no_parts { location = Some at }
parts_of (Block _ at) = record no_parts { location = Some at }
parts_of (Release _ at) = record no_parts { location = Some at }
parts_of (If _ c when otherwise) = record no_parts { expressions = One c; branches = when ∷ otherwise ∷ [] }
parts_of (Call _ args) = record no_parts { expressions = Arguments args }
parts_of (Verify _ g args) = record no_parts { verified = Some g; expressions = Arguments args }
parts_of (Update _ g args) = record no_parts { verified = Some g; expressions = Arguments args }
parts_of (SpecCheck _) = no_parts
parts_of (SpecBarrier _) = no_parts

-- TESTS OF PARTS

-- whether there is a value that passes the test
abbrev pub is_some_and : {T : Type 0} → (T → Bool) → Option T → Bool
is_some_and test None = false
is_some_and test (Some x) = test x

-- whether an expression that stands at the statement, or at the place, passes the test
abbrev pub some_of : (Expr → Bool) → Expressions → Bool
some_of test NoExpressions = false
some_of test (One e) = test e
some_of test (Arguments es) = list_any test es

-- whether an expression that stands at the statement passes the test
abbrev pub some_expr_of : (Expr → Bool) → Stmt → Bool
some_expr_of test s = some_of test (parts_of s).expressions

-- whether an expression that stands at the place passes the test
abbrev pub some_expr : (Expr → Bool) → Place → Bool
some_expr test x = at_statement false (λ s bs. some_expr_of test s) x

-- the test of a literal, for one that is an expression
abbrev pub of_constant : (Literal → Bool) → Expr → Bool
of_constant test (Constant l) = test l
of_constant test (Variable _) = false
of_constant test (Slice _ _ _) = false
of_constant test (Not _) = false
of_constant test (Binary _ _ _) = false
of_constant test (Cat _ _) = false
of_constant test (LessSigned _ _) = false
of_constant test (ZeroExtend _ _) = false
of_constant test (SignExtend _ _) = false
of_constant test (Choose _ _ _) = false

-- whether a literal at the place passes the test
abbrev pub some_literal : (Literal → Bool) → Place → Bool
some_literal test (Parameter _) = false
some_literal test (Memory _) = false
some_literal test (Statement s _) = some_expr_of (some_part (of_constant test)) s
some_literal test (End _) = false
some_literal test (StartClause s) = list_any test s.args

-- the location at a statement, where there is one
abbrev pub location_of : Stmt → Option Location
location_of s = (parts_of s).location

-- whether the location at a place passes the test
abbrev pub some_location : (Location → Bool) → Place → Bool
some_location test x = at_statement false (λ s bs. is_some_and test (location_of s)) x
