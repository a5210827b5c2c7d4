-- Which texts are pipes, and which token of any other text is the first out of place.
use Rattle.std.specs.Prelude.{◌≡◌, ℕ, List, [], ◌∷◌, ◌++◌, Result, Ok, Err}
use Rattle.pdl_semantics.specs.Tree.{Pipe}
use Rattle.pdl_syntax_tree.specs.declared.tree.Pipe as r
use Rattle.pdl_syntax_tree.specs.View.{pipe_view}
use Rattle.pdl_syntax_grammar.specs.declared.error.GrammarError.{GrammarError}
use Rattle.pdl_syntax_grammar.specs.declared.error.GrammarError.TheVariants as error
use Rattle.pdl_syntax_tokens.specs.Tokens.{Token, tokens, last_line}
use Rattle.pdl_syntax_grammar.specs.Grammar.{Text}
use Rattle.pdl_syntax_cursor.specs.Limits.{AreWithin, at_start}

-- the tokens are a spelling of the pipe, within the limits
pub record Spells (p : Pipe) (ts : List Token) : Type 0 where
  pub text : Text p ts []
  pub within : AreWithin at_start ts

-- the bytes are a source text of the pipe
abbrev pub IsText : List ℕ → Pipe → Type 0
IsText bytes p = Spells p (tokens bytes)

-- some text begins with the tokens, and so far they are within the limits
pub record Begins (ts : List Token) : Type 0 where
  pub more : List Token
  pub pipe : Pipe
  pub text : Text pipe (ts ++ more) []
  pub within : AreWithin at_start ts

-- the line of the first of the tokens, or the last line where none is left
abbrev pub line_of : List Token → ℕ → ℕ
line_of [] last = last
line_of (t ∷ ts) last = t.span.line

-- the bytes are no text, and the first of their tokens with which no text begins stands on the line; or each of them is in place and the text ends there too early
pub record IsOutOfPlace (bytes : List ℕ) (line : ℕ) : Type 0 where
  pub front : List Token
  pub after : List Token
  pub split : tokens bytes ≡ front ++ after
  pub place : line ≡ line_of after (last_line bytes)
  pub begins : Begins front
  pub bad : (t : Token) (more : List Token) → after ≡ t ∷ more → Begins (front ++ t ∷ []) → ⊥
  pub no_text : (p : Pipe) → IsText bytes p → ⊥

-- what may be answered: a tree, or the line of a token out of place
pub data Answer : Type 0 where
  Tree : (p : Pipe) → Answer
  Misplaced : (line : ℕ) → Answer

-- a result is the answer, or memory ran out
abbrev pub Gives : Answer → Result r.Pipe GrammarError → Type 0
Gives a (Err error.NoMemory) = Unit {0}
Gives (Tree p) (Ok q) = pipe_view q ≡ p
Gives (Misplaced line) (Err (error.Misplaced n)) = n ≡ line
Gives a result = ⊥

-- why a result is an error, unless memory ran out
abbrev pub IsRefused : List ℕ → Result r.Pipe GrammarError → Type 0
IsRefused bytes (Ok p) = Unit {0}
IsRefused bytes (Err error.NoMemory) = Unit {0}
IsRefused bytes (Err (error.Misplaced line)) = IsOutOfPlace bytes line
