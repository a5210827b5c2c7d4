-- The rule on advised variables at a place, where the variables and the memories are told.
use Rattle.std.specs.Prelude.{Bool, false, not, ◌&&◌, ◌||◌, List}
use Rattle.std.specs.List.{list_any}
use Rattle.pdl_semantics.specs.Tree.{Stmt, Separator, CombRead, Bind, SpecCall, DelayedRead, Write, Reserve, Block, Release, If, Call, Verify, Update, SpecCheck, SpecBarrier, Mem}
use Rattle.pdl_semantics.specs.Flatten.{Var, is_advisory_mem, is_advised_var, is_advised}
use Rattle.pdl_rules.specs.Places.{Place, at_statement}

-- whether a statement uses an advised variable where none may stand
abbrev pub uses_advice : List Var → List Mem → Stmt → Bool
uses_advice vs ms (Separator _) = false
uses_advice vs ms (CombRead _ _ at) = not (is_advisory_mem ms at.mem.name) && is_advised_var vs at.address.name
uses_advice vs ms (Bind _ _ _) = false
uses_advice vs ms (SpecCall _ _ _) = false
uses_advice vs ms (DelayedRead _ _ at) = is_advised_var vs at.address.name
uses_advice vs ms (Write _ at e) = not (is_advisory_mem ms at.mem.name) && (is_advised_var vs at.address.name || is_advised vs e)
uses_advice vs ms (Reserve _ at _) = is_advised_var vs at.address.name
uses_advice vs ms (Block _ at) = is_advised_var vs at.address.name
uses_advice vs ms (Release _ at) = is_advised_var vs at.address.name
uses_advice vs ms (If _ c _ _) = is_advised vs c
uses_advice vs ms (Call _ args) = list_any (is_advised vs) args
uses_advice vs ms (Verify _ _ args) = list_any (is_advised vs) args
uses_advice vs ms (Update _ _ args) = false
uses_advice vs ms (SpecCheck _) = false
uses_advice vs ms (SpecBarrier _) = false

-- whether a place does
abbrev pub breaks_advice : List Var → List Mem → Place → Bool
breaks_advice vs ms x = at_statement false (λ s bs. uses_advice vs ms s) x
