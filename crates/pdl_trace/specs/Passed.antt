-- What a sink has of bytes that are passed on to it in pieces.
use Rattle.std.specs.Prelude.{◌≡◌, ℕ, List, ◌++◌, Option, Result, Ok, Err, MatchResult}
use Rattle.pdl_kit.specs.Counts.{Rose}
use Rattle.pdl_kit.specs.Sinks.{TakesPrefix, with_bytes}
use Rattle.pdl_trace.specs.declared.text_error.TextError.{TextError}
use Rattle.pdl_trace.specs.declared.text_error.TextError.TheVariants.{NoMemory, WriteFailed}

-- the sink took the first of these bytes, and the others are held
pub record HasPassed (old new : Option (List ℕ)) (bytes held : List ℕ) : Type 0 where
  pub passed : List ℕ
  pub whole : bytes ≡ passed ++ held
  pub taken : new ≡ with_bytes passed old

-- these bytes are passed on, but for those that are held; where the sink fails it has a prefix of them
abbrev pub Passes : {T E : Type 0} → Option (List ℕ) → Option (List ℕ) → Result T E → List ℕ → List ℕ → Type 0
Passes old new result bytes held = MatchResult result (λ x. HasPassed old new bytes held) (λ e. TakesPrefix old new bytes)

-- the whole text is written, or a prefix of it where the sink fails
abbrev pub WritesText : {T E : Type 0} → Option (List ℕ) → Option (List ℕ) → Result T E → List ℕ → Type 0
WritesText old new result text = MatchResult result (λ x. new ≡ with_bytes text old) (λ e. TakesPrefix old new text)

-- a text is written while it is made: the whole; a prefix, where a write failed and the sink's count of faults rose; nothing, where memory was wanting
abbrev pub Streams : {T : Type 0} → Option (List ℕ) → Option (List ℕ) → ℕ → ℕ → List ℕ → Result T TextError → Type 0
Streams old new before now text (Ok x) = new ≡ with_bytes text old
Streams old new before now text (Err NoMemory) = new ≡ old
Streams old new before now text (Err WriteFailed) = Rose before now × TakesPrefix old new text
