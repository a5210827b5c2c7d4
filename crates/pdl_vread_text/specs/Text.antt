-- Which texts are files, and which token of any other text is the first out of place.
use Rattle.std.specs.Prelude.{◌≡◌, ℕ, List, [], ◌∷◌, ◌++◌, Result, Ok, Err}
use Rattle.pdl_vread_text.specs.declared.file.File.{File}
use Rattle.pdl_vread_text.specs.declared.part.Part.TheVariants.{Start}
use Rattle.pdl_vread_text.specs.declared.read.VerilogError.{VerilogError}
use Rattle.pdl_vread_text.specs.declared.read.VerilogError.TheVariants.{Misplaced, NoMemory}
use Rattle.pdl_vread_text.specs.Tokens.{Token, tokens, last_line}
use Rattle.pdl_vread_text.specs.Grammar.{Row, Taken, Derives}
use Rattle.pdl_vread_text.specs.Drafts.{file_of}

-- the tokens are a file's
pub record Spells (f : File) (ts : Row) : Type 0 where
  pub rules : List Taken
  pub derives : Derives Start ts rules
  pub same : f ≡ file_of rules

-- the bytes are a text of the file
abbrev pub IsFile : List ℕ → File → Type 0
IsFile bytes f = Spells f (tokens bytes)

-- some text begins with the tokens
pub record Begins (ts : Row) : Type 0 where
  pub more : Row
  pub rules : List Taken
  pub derives : Derives Start (ts ++ more) rules

-- the line of the first of the tokens, or the last line where none is left
abbrev pub line_of : Row → ℕ → ℕ
line_of [] last = last
line_of (t ∷ ts) last = t.line

-- the bytes are no text, and the first of their tokens with which no text begins stands on the line; or each of them is in place and the text ends there too early
pub record IsOutOfPlace (bytes : List ℕ) (line : ℕ) : Type 0 where
  pub front : Row
  pub after : Row
  pub split : tokens bytes ≡ front ++ after
  pub place : line ≡ line_of after (last_line bytes)
  pub begins : Begins front
  pub bad : (t : Token) (more : Row) → after ≡ t ∷ more → Begins (front ++ t ∷ []) → ⊥
  pub no_text : (f : File) → IsFile bytes f → ⊥

-- a result is this file, or memory ran out
abbrev pub GivesFile : File → Result File VerilogError → Type 0
GivesFile f (Ok g) = g ≡ f
GivesFile f (Err NoMemory) = Unit {0}
GivesFile f (Err (Misplaced line)) = ⊥

-- a result is a refusal at this line, or memory ran out
abbrev pub GivesLine : ℕ → Result File VerilogError → Type 0
GivesLine line (Ok g) = ⊥
GivesLine line (Err NoMemory) = Unit {0}
GivesLine line (Err (Misplaced n)) = n ≡ line

-- why a result is an error, unless memory ran out
abbrev pub IsRefused : List ℕ → Result File VerilogError → Type 0
IsRefused bytes (Ok f) = Unit {0}
IsRefused bytes (Err NoMemory) = Unit {0}
IsRefused bytes (Err (Misplaced line)) = IsOutOfPlace bytes line
