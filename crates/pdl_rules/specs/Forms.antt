-- Statements of one form, asked by a test of what stands there. Each form is named: a new one has to be spoken of here.
use Rattle.std.specs.Prelude.{Bool, true, false}
use Rattle.pdl_semantics.specs.Tree.{Span, Ident, Expr, Location, Kind, Stmt, Separator, CombRead, Bind, SpecCall, DelayedRead, Write, Reserve, Block, Release, If, Call, Verify, Update, SpecCheck, SpecBarrier}

-- what is told of an `if`, by its span and its condition; of any other statement the same
abbrev pub of_if : {T : Type 0} → T → (Span → Expr → T) → Stmt → T
of_if other told (Separator _) = other
of_if other told (CombRead _ _ _) = other
of_if other told (Bind _ _ _) = other
of_if other told (SpecCall _ _ _) = other
of_if other told (DelayedRead _ _ _) = other
of_if other told (Write _ _ _) = other
of_if other told (Reserve _ _ _) = other
of_if other told (Block _ _) = other
of_if other told (Release _ _) = other
of_if other told (If s c _ _) = told s c
of_if other told (Call _ _) = other
of_if other told (Verify _ _ _) = other
of_if other told (Update _ _ _) = other
of_if other told (SpecCheck _) = other
of_if other told (SpecBarrier _) = other

-- the separator of two stages
abbrev pub separates : Stmt → Bool
separates (Separator _) = true
separates (CombRead _ _ _) = false
separates (Bind _ _ _) = false
separates (SpecCall _ _ _) = false
separates (DelayedRead _ _ _) = false
separates (Write _ _ _) = false
separates (Reserve _ _ _) = false
separates (Block _ _) = false
separates (Release _ _) = false
separates (If _ _ _ _) = false
separates (Call _ _) = false
separates (Verify _ _ _) = false
separates (Update _ _ _) = false
separates (SpecCheck _) = false
separates (SpecBarrier _) = false

-- a delayed read of a location that passes the test
abbrev pub fetches : (Location → Bool) → Stmt → Bool
fetches test (Separator _) = false
fetches test (CombRead _ _ _) = false
fetches test (Bind _ _ _) = false
fetches test (SpecCall _ _ _) = false
fetches test (DelayedRead _ _ at) = test at
fetches test (Write _ _ _) = false
fetches test (Reserve _ _ _) = false
fetches test (Block _ _) = false
fetches test (Release _ _) = false
fetches test (If _ _ _ _) = false
fetches test (Call _ _) = false
fetches test (Verify _ _ _) = false
fetches test (Update _ _ _) = false
fetches test (SpecCheck _) = false
fetches test (SpecBarrier _) = false

-- the write of a value to a location
abbrev pub writes : (Location → Expr → Bool) → Stmt → Bool
writes test (Separator _) = false
writes test (CombRead _ _ _) = false
writes test (Bind _ _ _) = false
writes test (SpecCall _ _ _) = false
writes test (DelayedRead _ _ _) = false
writes test (Write _ at e) = test at e
writes test (Reserve _ _ _) = false
writes test (Block _ _) = false
writes test (Release _ _) = false
writes test (If _ _ _ _) = false
writes test (Call _ _) = false
writes test (Verify _ _ _) = false
writes test (Update _ _ _) = false
writes test (SpecCheck _) = false
writes test (SpecBarrier _) = false

-- a reservation of a location, to be read or to be written
abbrev pub reserves : (Location → Kind → Bool) → Stmt → Bool
reserves test (Separator _) = false
reserves test (CombRead _ _ _) = false
reserves test (Bind _ _ _) = false
reserves test (SpecCall _ _ _) = false
reserves test (DelayedRead _ _ _) = false
reserves test (Write _ _ _) = false
reserves test (Reserve _ at k) = test at k
reserves test (Block _ _) = false
reserves test (Release _ _) = false
reserves test (If _ _ _ _) = false
reserves test (Call _ _) = false
reserves test (Verify _ _ _) = false
reserves test (Update _ _ _) = false
reserves test (SpecCheck _) = false
reserves test (SpecBarrier _) = false

-- the release of a location
abbrev pub releases : (Location → Bool) → Stmt → Bool
releases test (Separator _) = false
releases test (CombRead _ _ _) = false
releases test (Bind _ _ _) = false
releases test (SpecCall _ _ _) = false
releases test (DelayedRead _ _ _) = false
releases test (Write _ _ _) = false
releases test (Reserve _ _ _) = false
releases test (Block _ _) = false
releases test (Release _ at) = test at
releases test (If _ _ _ _) = false
releases test (Call _ _) = false
releases test (Verify _ _ _) = false
releases test (Update _ _ _) = false
releases test (SpecCheck _) = false
releases test (SpecBarrier _) = false

-- whether a statement is a call on a guess whose name passes the test
abbrev pub guesses : (Ident → Bool) → Stmt → Bool
guesses test (Separator _) = false
guesses test (CombRead _ _ _) = false
guesses test (Bind _ _ _) = false
guesses test (SpecCall _ g _) = test g
guesses test (DelayedRead _ _ _) = false
guesses test (Write _ _ _) = false
guesses test (Reserve _ _ _) = false
guesses test (Block _ _) = false
guesses test (Release _ _) = false
guesses test (If _ _ _ _) = false
guesses test (Call _ _) = false
guesses test (Verify _ _ _) = false
guesses test (Update _ _ _) = false
guesses test (SpecCheck _) = false
guesses test (SpecBarrier _) = false

-- the `verify` of a guess that passes the test
abbrev pub verifies : (Ident → Bool) → Stmt → Bool
verifies test (Separator _) = false
verifies test (CombRead _ _ _) = false
verifies test (Bind _ _ _) = false
verifies test (SpecCall _ _ _) = false
verifies test (DelayedRead _ _ _) = false
verifies test (Write _ _ _) = false
verifies test (Reserve _ _ _) = false
verifies test (Block _ _) = false
verifies test (Release _ _) = false
verifies test (If _ _ _ _) = false
verifies test (Call _ _) = false
verifies test (Verify _ g _) = test g
verifies test (Update _ _ _) = false
verifies test (SpecCheck _) = false
verifies test (SpecBarrier _) = false

-- whether a statement is the `update` of a guess whose name passes the test
abbrev pub updates : (Ident → Bool) → Stmt → Bool
updates test (Separator _) = false
updates test (CombRead _ _ _) = false
updates test (Bind _ _ _) = false
updates test (SpecCall _ _ _) = false
updates test (DelayedRead _ _ _) = false
updates test (Write _ _ _) = false
updates test (Reserve _ _ _) = false
updates test (Block _ _) = false
updates test (Release _ _) = false
updates test (If _ _ _ _) = false
updates test (Call _ _) = false
updates test (Verify _ _ _) = false
updates test (Update _ g _) = test g
updates test (SpecCheck _) = false
updates test (SpecBarrier _) = false

-- what waits until the thread is known to be wanted
abbrev pub bars : Stmt → Bool
bars (Separator _) = false
bars (CombRead _ _ _) = false
bars (Bind _ _ _) = false
bars (SpecCall _ _ _) = false
bars (DelayedRead _ _ _) = false
bars (Write _ _ _) = false
bars (Reserve _ _ _) = false
bars (Block _ _) = false
bars (Release _ _) = false
bars (If _ _ _ _) = false
bars (Call _ _) = false
bars (Verify _ _ _) = false
bars (Update _ _ _) = false
bars (SpecCheck _) = false
bars (SpecBarrier _) = true
