-- What the recogniser answers.
use Rattle.std.specs.Prelude.{◌≡◌, ℕ, Bool, true, false, List, [], ◌∷◌, ◌++◌, Option, Some, None, Result, Ok, Err}
use Rattle.pdl_syntax_tokens.specs.declared.token.TokenKind.{TokenKind}
use Rattle.pdl_syntax_grammar.specs.Automaton.{Stack, act}
use Rattle.pdl_semantics.specs.Tree.{Pipe}
use Rattle.pdl_kit.specs.declared.no_memory.NoMemory.{NoMemory}
use Rattle.pdl_syntax_grammar.specs.Text.{IsText, IsOutOfPlace}

-- none for the text of a pipe, or the line of the first token out of place, unless memory runs out
abbrev pub IsRecognised : List ℕ → Result (Option ℕ) NoMemory → Type 0
IsRecognised bytes (Ok None) = (p : Pipe) × IsText bytes p
IsRecognised bytes (Ok (Some line)) = IsOutOfPlace bytes line
IsRecognised bytes (Err e) = Unit {0}

-- what is expected once the next symbol took a token of the kind, none where it doesn't take it
abbrev pub stack_after : Stack → TokenKind → Option Stack
stack_after [] k = None
stack_after (s ∷ below) k = above (act s k)
  where
    above : Option Stack → Option Stack
    above None = None
    above (Some symbols) = Some (symbols ++ below)

-- whether it was taken, and what is expected then, unless memory ran out
abbrev pub StepsTo : Option Stack → Result Bool NoMemory → Stack → Type 0
StepsTo o (Err e) now = Unit {0}
StepsTo (Some stack) (Ok true) now = now ≡ stack
StepsTo None (Ok false) now = Unit {0}
StepsTo o (Ok b) now = ⊥
