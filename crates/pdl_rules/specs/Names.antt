-- Names: rules N1 to N3.
use Rattle.std.specs.Prelude.{ℕ, Bool, true, false, not, ◌&&◌, ◌||◌, List, [], ◌∷◌, bytes_eq, Option, Some, None}
use Rattle.std.specs.List.{list_any}
use Rattle.pdl_semantics.specs.Tree.{Ident, Expr, Constant, Variable, Slice, Not, Binary, Cat, LessSigned, ZeroExtend, SignExtend, Choose, Location, Stmt, Param, Pipe}
use Rattle.pdl_rules.specs.Places.{Place, Parameter, Memory, Statement, End, StartClause, at_statement, places, on_some_path}
use Rattle.pdl_rules.specs.Forms.{fetches}
use Rattle.pdl_rules.specs.Parts.{some_part, parts_of, some_expr_of, location_of, is_some_and}
use Rattle.pdl_rules.specs.Limits.{is_separator}

-- DEFINITIONS

-- the bytes of a name, where there is one
abbrev pub name_of : Option Ident → Option (List ℕ)
name_of None = None
name_of (Some x) = Some x.name

-- the variable, the memory and the guess that a place defines
abbrev pub bound_by : Stmt → Option (List ℕ)
bound_by s = name_of (parts_of s).variable

-- the variable that a place defines, if it defines one
abbrev pub variable_at : Place → Option (List ℕ)
variable_at (Parameter a) = Some a.name.name
variable_at (Memory _) = None
variable_at (Statement s _) = bound_by s
variable_at (End _) = None
variable_at (StartClause _) = None

-- the memory that a place defines, if it defines one
abbrev pub memory_at : Place → Option (List ℕ)
memory_at (Parameter _) = None
memory_at (Memory m) = Some m.name.name
memory_at (Statement _ _) = None
memory_at (End _) = None
memory_at (StartClause _) = None

-- the guess that a place defines, if it defines one
abbrev pub guess_at : Place → Option (List ℕ)
guess_at x = at_statement None (λ s bs. name_of (parts_of s).guess) x

-- the name that a place defines, of whatever kind
abbrev pub either_name : Option (List ℕ) → Option (List ℕ) → Option (List ℕ)
either_name None y = y
either_name (Some x) y = Some x

-- the name of the variable, memory or guess that a place defines
abbrev pub name_at : Place → Option (List ℕ)
name_at (Parameter a) = Some a.name.name
name_at (Memory m) = Some m.name.name
name_at (Statement s _) = either_name (bound_by s) (name_of (parts_of s).guess)
name_at (End _) = None
name_at (StartClause _) = None

-- USES

-- the use of a name, with the kind of thing that it has to name
pub data Use : Type 0 where
  OfVariable : (name : List ℕ) → Use
  OfMemory : (name : List ℕ) → Use
  OfGuess : (name : List ℕ) → Use

-- whether a place defines what is used
abbrev pub defines_use : Use → Place → Bool
defines_use (OfVariable x) d = is_some_and (bytes_eq x) (variable_at d)
defines_use (OfMemory m) d = is_some_and (bytes_eq m) (memory_at d)
defines_use (OfGuess g) d = is_some_and (bytes_eq g) (guess_at d)

-- whether an expression by itself, without its parts, reads a variable whose use passes the test
abbrev pub reads_some : (Use → Bool) → Expr → Bool
reads_some test (Constant _) = false
reads_some test (Variable x) = test (OfVariable x.name)
reads_some test (Slice x _ _) = test (OfVariable x.name)
reads_some test (Not _) = false
reads_some test (Binary _ _ _) = false
reads_some test (Cat _ _) = false
reads_some test (LessSigned _ _) = false
reads_some test (ZeroExtend _ _) = false
reads_some test (SignExtend _ _) = false
reads_some test (Choose _ _ _) = false

-- whether the use of a location's memory, or of its address, passes the test
abbrev pub in_location : (Use → Bool) → Location → Bool
in_location test at = test (OfMemory at.mem.name) || test (OfVariable at.address.name)

-- whether the use of the guess that a statement verifies passes the test
abbrev pub in_verify : (Use → Bool) → Stmt → Bool
in_verify test s = is_some_and (λ (g : Ident). test (OfGuess g.name)) (parts_of s).verified

-- whether a use at a statement, or at a place, passes the test
abbrev pub uses_some : (Use → Bool) → Stmt → Bool
uses_some test s =
    is_some_and (in_location test) (location_of s)
    || (in_verify test s || some_expr_of (some_part (reads_some test)) s)

-- whether some use at a place passes the test
abbrev pub some_use : (Use → Bool) → Place → Bool
some_use test x = at_statement false (λ s bs. uses_some test s) x

-- whether a place is a start clause that names another pipe
abbrev pub names_another_pipe : Pipe → Place → Bool
names_another_pipe p (Parameter _) = false
names_another_pipe p (Memory _) = false
names_another_pipe p (Statement _ _) = false
names_another_pipe p (End _) = false
names_another_pipe p (StartClause s) = not (bytes_eq s.name.name p.name.name)

-- whether none of these places defines what is used
abbrev pub is_undefined : List Place → Use → Bool
is_undefined ds u = not (list_any (defines_use u) ds)

-- N1 at a place: a start clause for another pipe, or the use of what no place of the text defines
abbrev pub breaks_n1 : Pipe → Place → Bool
breaks_n1 p x = names_another_pipe p x || some_use (is_undefined (places p)) x

-- whether a name is that of the pipe, or one that a place before defines
abbrev pub is_taken_name : Pipe → List Place → List ℕ → Bool
is_taken_name p before x = bytes_eq x p.name.name || list_any (λ d. is_some_and (bytes_eq x) (name_at d)) before

-- N2 at a place: it defines the name of the pipe, or one that a place before defines
abbrev pub breaks_n2 : Pipe → List Place → Place → Bool
breaks_n2 p before x = is_some_and (is_taken_name p before) (name_at x)

-- N3: a variable that is no parameter, or a guess, with no definition before it in the text, or none before it on some path, where that of a delayed read has a separator after it
-- whether a name is that of a parameter
abbrev pub is_parameter : Pipe → List ℕ → Bool
is_parameter p x = list_any (λ (a : Param). bytes_eq x a.name.name) p.params

-- whether a use needs a definition before it: that of a guess does, and that of a variable that is no parameter
abbrev pub needs_definition : Pipe → Use → Bool
needs_definition p (OfVariable x) = not (is_parameter p x)
needs_definition p (OfMemory _) = false
needs_definition p (OfGuess _) = true

-- whether a place is a delayed read
abbrev pub is_delayed : Place → Bool
is_delayed x = at_statement false (λ s bs. fetches (λ at. true) s) x

-- whether one of these places gives what is used, to whoever stands after the last of them
abbrev pub is_given : List Place → Use → Bool
is_given [] u = false
is_given (d ∷ ds) u = (defines_use u d && (not (is_delayed d) || list_any is_separator ds)) || is_given ds u

-- whether a use that needs a definition before it has none in the text, or none on some path
abbrev pub is_too_early : Pipe → List Place → Place → Use → Bool
is_too_early p before x u =
    needs_definition p u && (is_undefined before u || on_some_path (λ earlier. not (is_given earlier u)) p before x)

-- N3 at a place: it has a use that is too early
abbrev pub breaks_n3 : Pipe → List Place → Place → Bool
breaks_n3 p before x = some_use (is_too_early p before x) x
