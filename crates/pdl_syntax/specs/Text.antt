-- What the parser answers.
use Rattle.std.specs.Prelude.{◌≡◌, ℕ, nat_le, cond, List, length, Option, Some, None, Result, Ok, Err}
use Rattle.pdl_kit.specs.declared.rule.Rule.{Rule}
use Rattle.pdl_kit.specs.declared.rule.Rule.TheVariants.{Z1}
use Rattle.pdl_semantics.specs.Tree.{Pipe}
use Rattle.pdl_syntax_tree.specs.declared.tree.Pipe as r
use Rattle.pdl_syntax_tree.specs.View.{pipe_view}
use Rattle.pdl_syntax_grammar.specs.declared.error.GrammarError.{GrammarError}
use Rattle.pdl_syntax_grammar.specs.declared.error.GrammarError.TheVariants as read
use Rattle.pdl_syntax_grammar.specs.Text.{IsText, IsOutOfPlace}
use Rattle.pdl_syntax.specs.declared.error.ParseError.{ParseError}
use Rattle.pdl_syntax.specs.declared.error.ParseError.TheVariants as error

-- the refusal that a text out of the grammar gets
abbrev pub refusal : GrammarError → ParseError
refusal (read.Misplaced line) = error.Grammar line
refusal read.NoMemory = error.NoMemory

-- the lowest limit that the text of a pipe breaks, and the line of its lowest place
abbrev pub broken_limit : List ℕ → Pipe → Option (Rule × ℕ)
broken_limit bytes p = cond (nat_le (length bytes) 1048576) None (Some (Z1, 1))

-- what may be answered: a tree, a line with a token out of place, or a broken limit with its line
pub data Answer : Type 0 where
  Tree : (p : Pipe) → Answer
  Misplaced : (line : ℕ) → Answer
  Over : (limit : Rule × ℕ) → Answer

-- the answer to the text of a pipe
abbrev pub parse_answer : List ℕ → Pipe → Answer
parse_answer bytes p = by_limit (broken_limit bytes p)
  where
    by_limit : Option (Rule × ℕ) → Answer
    by_limit None = Tree p
    by_limit (Some limit) = Over limit

-- a result is the answer, or memory ran out
abbrev pub Gives : Answer → Result r.Pipe ParseError → Type 0
Gives a (Err error.NoMemory) = Unit {0}
Gives (Tree p) (Ok q) = pipe_view q ≡ p
Gives (Misplaced line) (Err (error.Grammar n)) = n ≡ line
Gives (Over limit) (Err (error.Limit rule n)) = (rule, n) ≡ limit
Gives a result = ⊥

-- why a result is an error, unless memory ran out
abbrev pub IsRefusal : List ℕ → ParseError → Type 0
IsRefusal bytes error.NoMemory = Unit {0}
IsRefusal bytes (error.Grammar line) = IsOutOfPlace bytes line
IsRefusal bytes (error.Limit rule line) = (p : Pipe) × IsText bytes p × (broken_limit bytes p ≡ Some (rule, line))

-- where a result is an error, it tells why, unless memory ran out
abbrev pub IsRefused : List ℕ → Result r.Pipe ParseError → Type 0
IsRefused bytes (Ok p) = Unit {0}
IsRefused bytes (Err e) = IsRefusal bytes e

-- the tree of a text that keeps the limits, or a refusal that tells why
abbrev pub IsParsed : List ℕ → Result r.Pipe ParseError → Type 0
IsParsed bytes (Ok p) = IsText bytes (pipe_view p) × (broken_limit bytes (pipe_view p) ≡ None)
IsParsed bytes (Err e) = IsRefusal bytes e
