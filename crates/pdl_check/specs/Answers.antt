-- What may be answered to a source.
use Rattle.std.specs.Prelude.{◌≡◌, ℕ, false, ◌⊎◌, ◌++◌, List, Option, Some, None, Result, Ok, Err}
use Rattle.pdl_kit.specs.declared.rule.Rule.TheVariants.{G1}
use Rattle.pdl_semantics.specs.Tree.{Pipe}
use Rattle.pdl_syntax_tree.specs.declared.tree.Pipe as r
use Rattle.pdl_syntax_tree.specs.View.{pipe_view}
use Rattle.pdl_syntax_grammar.specs.Text.{IsText, IsOutOfPlace}
use Rattle.pdl_rules.specs.Limits.{is_too_long}
use Rattle.pdl_rules.specs.Refusal.{Refused, refusal, limits, after_limits, first_broken}
use Rattle.pdl_check.specs.declared.accepted.Accepted.{Accepted}
use Rattle.pdl_kit.specs.declared.refusal.Refusal.{Refusal}
use Rattle.pdl_kit.specs.declared.refusal.Refusal.TheVariants as error

-- the pipe is accepted, or a rule is broken
pub data Answer : Type 0 where
  Accepts : (p : Pipe) → Answer
  Refuses : (refused : Refused) → Answer

abbrev pub answer_of : Pipe → Option Refused → Answer
answer_of p None = Accepts p
answer_of p (Some r) = Refuses r

-- the answer to the text of a pipe
abbrev pub check_answer : List ℕ → Pipe → Answer
check_answer source p = answer_of p (refusal source p)

-- a result is the answer, or memory ran out
abbrev pub Gives : Answer → Result Accepted Refusal → Type 0
Gives a (Err error.NoMemory) = Unit {0}
Gives (Accepts p) (Ok a) = pipe_view a.typed.pipe ≡ p
Gives (Refuses r) (Err (error.Refused rule line)) = r ≡ record { rule = rule; line = line }
Gives a result = ⊥

-- why a source is refused, unless memory ran out: a token out of place, or a rule that the pipe of the text breaks
abbrev pub IsCause : List ℕ → Refusal → Type 0
IsCause source error.NoMemory = Unit {0}
IsCause source (error.Refused rule line) =
    ((rule ≡ G1) × IsOutOfPlace source line)
    ⊎ ((p : Pipe) × IsText source p × (refusal source p ≡ Some (record { rule = rule; line = line })))

-- why a result is a refusal
abbrev pub IsRefused : List ℕ → Result Accepted Refusal → Type 0
IsRefused source (Ok a) = Unit {0}
IsRefused source (Err e) = IsCause source e

-- a result is the pipe of the text where nothing refuses it, or the cause of its refusal
abbrev pub IsChecked : List ℕ → Result Accepted Refusal → Type 0
IsChecked source (Ok a) = IsText source (pipe_view a.typed.pipe) × (refusal source (pipe_view a.typed.pipe) ≡ None)
IsChecked source (Err e) = IsCause source e

-- the pipe of a text that isn't too long, or the cause of its refusal
abbrev pub IsRead : List ℕ → Result r.Pipe Refusal → Type 0
IsRead source (Ok p) = IsText source (pipe_view p) × (is_too_long source ≡ false)
IsRead source (Err e) = IsCause source e

-- an error is the lowest rule of the tree that the pipe breaks, at its lowest place
abbrev pub IsBroken : Pipe → Refusal → Type 0
IsBroken p error.NoMemory = Unit {0}
IsBroken p (error.Refused rule line) = first_broken (limits ++ after_limits) p ≡ Some (record { rule = rule; line = line })

-- a result is the pipe where it breaks no rule, or the lowest rule that it breaks
abbrev pub IsJudged : Pipe → Result Accepted Refusal → Type 0
IsJudged p (Ok a) = (pipe_view a.typed.pipe ≡ p) × (first_broken (limits ++ after_limits) p ≡ None)
IsJudged p (Err e) = IsBroken p e
