-- The call of the next thread: rule S1.
use Rattle.std.specs.Prelude.{Bool, true, false, not, List}
use Rattle.std.specs.List.{list_any}
use Rattle.pdl_semantics.specs.Tree.{Stmt, Separator, CombRead, Bind, SpecCall, DelayedRead, Write, Reserve, Block, Release, If, Call, Verify, Update, SpecCheck, SpecBarrier, Pipe}
use Rattle.pdl_rules.specs.Places.{Place, Parameter, Memory, Statement, End, StartClause, at_statement, on_some_path}

-- whether a statement calls the next thread, on a guess or not
abbrev pub calls : Stmt → Bool
calls (Separator _) = false
calls (CombRead _ _ _) = false
calls (Bind _ _ _) = false
calls (SpecCall _ _ _) = true
calls (DelayedRead _ _ _) = false
calls (Write _ _ _) = false
calls (Reserve _ _ _) = false
calls (Block _ _) = false
calls (Release _ _) = false
calls (If _ _ _ _) = false
calls (Call _ _) = true
calls (Verify _ _ _) = false
calls (Update _ _ _) = false
calls (SpecCheck _) = false
calls (SpecBarrier _) = false

-- whether a place calls the next thread, on a guess or not
abbrev pub is_call : Place → Bool
is_call x = at_statement false (λ s bs. calls s) x

-- whether a statement is a second call, speculative or not
abbrev pub calls_again : List Place → Stmt → Bool
calls_again earlier (Separator _) = false
calls_again earlier (CombRead _ _ _) = false
calls_again earlier (Bind _ _ _) = false
calls_again earlier (SpecCall _ _ _) = list_any is_call earlier
calls_again earlier (DelayedRead _ _ _) = false
calls_again earlier (Write _ _ _) = false
calls_again earlier (Reserve _ _ _) = false
calls_again earlier (Block _ _) = false
calls_again earlier (Release _ _) = false
calls_again earlier (If _ _ _ _) = false
calls_again earlier (Call _ _) = list_any is_call earlier
calls_again earlier (Verify _ _ _) = false
calls_again earlier (Update _ _ _) = false
calls_again earlier (SpecCheck _) = false
calls_again earlier (SpecBarrier _) = false

-- whether a place calls again after the earlier ones, or is the end where none of them calls
abbrev pub is_wrong_call : List Place → Place → Bool
is_wrong_call earlier (Parameter _) = false
is_wrong_call earlier (Memory _) = false
is_wrong_call earlier (Statement s _) = calls_again earlier s
is_wrong_call earlier (End _) = not (list_any is_call earlier)
is_wrong_call earlier (StartClause _) = false

-- S1 at a place: on some path it is a second call, or the end without any call
abbrev pub breaks_s1 : Pipe → List Place → Place → Bool
breaks_s1 p before x = on_some_path (λ earlier. is_wrong_call earlier x) p before x
