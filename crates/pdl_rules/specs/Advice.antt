-- Advisory memories: rule P1. An advised variable is one that a read of an advisory memory binds, or an expression that uses an advised variable.
use Rattle.std.specs.Prelude.{Bool, false, not, ◌&&◌, ◌||◌, List}
use Rattle.std.specs.List.{list_any}
use Rattle.pdl_semantics.specs.Tree.{Expr, Location, Stmt, Separator, CombRead, Bind, SpecCall, DelayedRead, Write, Reserve, Block, Release, If, Call, Verify, Update, SpecCheck, SpecBarrier, Pipe}
use Rattle.pdl_semantics.specs.Flatten.{is_advisory_mem, is_advised_var, is_advised}
use Rattle.pdl_rules.specs.Places.{Place, at_statement}
use Rattle.pdl_rules.specs.Widths.{variables}

-- whether the address of a location is advised
abbrev pub has_advised_address : Pipe → Location → Bool
has_advised_address p at = is_advised_var (variables p) at.address.name

-- whether one of these expressions uses an advised variable
abbrev pub some_advised : Pipe → List Expr → Bool
some_advised p es = list_any (is_advised (variables p)) es

-- whether a statement has an advised variable elsewhere than in a binding's expression, in the arguments of a guess or of an update, in the address of a read of an advisory memory, or in the address or value of a write to one
abbrev pub uses_advice : Pipe → Stmt → Bool
uses_advice p (Separator _) = false
uses_advice p (CombRead _ _ at) = not (is_advisory_mem p.mems at.mem.name) && has_advised_address p at
uses_advice p (Bind _ _ _) = false
uses_advice p (SpecCall _ _ _) = false
uses_advice p (DelayedRead _ _ at) = has_advised_address p at
uses_advice p (Write _ at e) = not (is_advisory_mem p.mems at.mem.name) && (has_advised_address p at || is_advised (variables p) e)
uses_advice p (Reserve _ at _) = has_advised_address p at
uses_advice p (Block _ at) = has_advised_address p at
uses_advice p (Release _ at) = has_advised_address p at
uses_advice p (If _ c _ _) = is_advised (variables p) c
uses_advice p (Call _ args) = some_advised p args
uses_advice p (Verify _ _ args) = some_advised p args
uses_advice p (Update _ _ args) = false
uses_advice p (SpecCheck _) = false
uses_advice p (SpecBarrier _) = false

-- P1 at a place: an advised variable where none may stand
abbrev pub breaks_p1 : Pipe → Place → Bool
breaks_p1 p x = at_statement false (λ s bs. uses_advice p s) x
