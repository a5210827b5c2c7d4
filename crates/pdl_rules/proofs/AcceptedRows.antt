-- Short pipes with an update and with an advisory memory, which no rule refuses; computed.
use Rattle.std.specs.Prelude.{◌≡◌, ℕ, List, [], ◌∷◌, Option, Some, None, refl}
use Rattle.pdl_kit.specs.declared.rule.Rule.{Rule}
use Rattle.pdl_kit.specs.declared.rule.Rule.TheVariants.{S6}
use Rattle.pdl_semantics.specs.Tree.{Mem, Pipe}
use Rattle.pdl_rules.specs.Refusal.{Refused, refusal}
use Rattle.pdl_rules.proofs.Texts.{literal, constant, variable, plus, Line, separator, call, spec_call, verify, update, spec_check, param, advisory, whole}

-- a short source with these memories and this body, which begins on line 3
abbrev short : List Mem → List Line → Pipe
short ms body = whole (param "n" 8 ∷ []) ms body (literal 8 0 ∷ [])

abbrev at_line : Rule → ℕ → Option Refused
at_line r k = Some (record { rule = r; line = k })

abbrev next : Line
next = call (plus (variable "n") (constant 8 1) ∷ [])

-- a second guess
abbrev updated : Pipe
updated =
    short []
    (spec_check ∷ spec_call "s" (variable "n" ∷ []) ∷ separator ∷ update "s" (variable "n" ∷ []) ∷ separator ∷ verify "s" (variable "n" ∷ []) ∷ [])

updated_accepted : refusal [] updated ≡ None
updated_accepted = refl

-- one that breaks the rule of its subject is refused by it
abbrev updated_at_once : Pipe
updated_at_once =
    short []
    (spec_check ∷ spec_call "s" (variable "n" ∷ []) ∷ update "s" (variable "n" ∷ []) ∷ separator ∷ verify "s" (variable "n" ∷ []) ∷ [])

updated_at_once_refused : refusal [] updated_at_once ≡ at_line S6 5
updated_at_once_refused = refl

-- an advisory memory
abbrev advised : Pipe
advised = short (advisory 2 "t" 8 4 ∷ []) (next ∷ [])

advised_accepted : refusal [] advised ≡ None
advised_accepted = refl
