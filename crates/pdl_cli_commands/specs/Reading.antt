-- What a command reads: its files in order, and no file after a wrong one.
use Rattle.std.specs.Prelude.{◌≡◌, ℕ, ◌<◌, List, [], ◌∷◌, ◌++◌, map, length, take, Option, Some, None}
use Rattle.pdl_kit.specs.declared.rule.Rule.{Rule}
use Rattle.pdl_system.specs.Answers.{Answer}
use Rattle.pdl_cli_args.specs.Line.{Command, check, run, seq, asm, gen, build, sim, wave, view}
use Rattle.pdl_cli_failure.specs.declared.failure.Position.{Position}
use Rattle.pdl_cli_commands.specs.Commands.{IsWrongFor}

-- a file that may be left out, as a list
abbrev pub listed : Option (List ℕ) → List (List ℕ)
listed None = []
listed (Some name) = name ∷ []

-- the names of the files of a command, in the order in which they are read
abbrev pub files : Command → List (List ℕ)
files (check source) = source ∷ []
files (run source image cycles delays) = source ∷ image ∷ listed delays
files (seq source image threads) = source ∷ image ∷ []
files (asm table program) = table ∷ program ∷ []
files (gen number) = []
files (build source) = source ∷ []
files (sim v image cycles delays) = v ∷ image ∷ listed delays
files (wave source image cycles delays) = source ∷ image ∷ listed delays
files (view source image cycles delays) = source ∷ image ∷ listed delays

-- the texts, and before them this one, if it is there
abbrev pub with_text : Option (List ℕ) → List (List ℕ) → List (List ℕ)
with_text None texts = texts
with_text (Some text) texts = text ∷ texts

-- the texts that reads gave
abbrev pub texts : List Answer → List (List ℕ)
texts [] = []
texts (a ∷ rs) = with_text a.bytes (texts rs)

-- the reads of a command: its files in order, each once; one is read only where each before it gave its text, and none of these texts is wrong
pub record IsReading (command : Command) (reads : List Answer) : Type 0 where
  pub unread : List (List ℕ)
  pub in_order : files command ≡ map (λ a. a.name) reads ++ unread
  pub given : (k : ℕ) → k < length reads → length (texts (take k reads)) ≡ k
  pub right : (k : ℕ) → k < length reads → (rule : Rule) (position : Position)
      → IsWrongFor command (texts (take k reads)) rule position → ⊥

-- all files of a command were read, and gave their texts
abbrev pub AreAllGiven : Command → List Answer → Type 0
AreAllGiven command reads = length (texts reads) ≡ length (files command)

-- some file was not read
abbrev pub HasFailed : List Answer → Type 0
HasFailed reads = length (texts reads) < length reads
