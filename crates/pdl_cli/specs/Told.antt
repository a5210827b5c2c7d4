-- What a command does with files that tell what they hold.
use Rattle.std.specs.Prelude.{◌≡◌, ℕ, ◌⊎◌, List, [], ◌∷◌, length, Some, Result, Ok, Err, ⊤}
use Rattle.pdl_kit.specs.declared.rule.Rule.{Rule}
use Rattle.pdl_kit.specs.Counts.{Rose}
use Rattle.pdl_kit.specs.Sinks.{TakesPrefix, with_bytes}
use Rattle.pdl_system.specs.Files.{Held, bytes_of}
use Rattle.pdl_cli_args.specs.Line.{Command}
use Rattle.pdl_cli_failure.specs.declared.failure.Position.{Position}
use Rattle.pdl_cli_failure.specs.declared.failure.Failure.{Failure}
use Rattle.pdl_cli_failure.specs.declared.failure.Failure.TheVariants.{Refused, WriteFault}
use Rattle.pdl_cli_commands.specs.Commands.{Writes, IsWrongFor}
use Rattle.pdl_cli_commands.specs.Reading.{files}
use Rattle.pdl_cli_commands.specs.Outcomes.{Seen}

-- the first of these names hold these texts
abbrev pub Hold : Held → List (List ℕ) → List (List ℕ) → Type 0
Hold held names [] = ⊤
Hold held [] (text ∷ texts) = ⊥
Hold held (name ∷ names) (text ∷ texts) = (bytes_of held name ≡ Some text) × Hold held names texts

-- the text that a command writes of what its files hold
abbrev pub WritesOf : Held → Command → List ℕ → Type 0
WritesOf held command text =
    (texts : List (List ℕ)) × Hold held (files command) texts × (length texts ≡ length (files command)) × Writes command texts text

-- of the files of a command, by what they hold, the first wrong one is refused by the rule at the position
abbrev pub IsWrongOf : Held → Command → Rule → Position → Type 0
IsWrongOf held command rule position =
    (texts : List (List ℕ)) × Hold held (files command) texts × IsWrongFor command texts rule position

-- what came of a command has its cause in what its files hold: the text that out took, or a prefix of it, is written of that, and what is refused is the first wrong file
abbrev pub HasComeOf : {T : Type 0} → Held → Command → Seen → Result T Failure → Type 0
HasComeOf held command s (Ok x) = (text : List ℕ) × WritesOf held command text × (s.written_now ≡ with_bytes text s.written)
HasComeOf held command s (Err (Refused rule position)) = IsWrongOf held command rule position
HasComeOf held command s (Err WriteFault) = (text : List ℕ) × WritesOf held command text × TakesPrefix s.written s.written_now text
HasComeOf held command s (Err _) = ⊤

-- the status of a command is decided by what its files hold: 2 where one is wrong and no reading failed; 0 where none is wrong and nothing failed; where it isn't, memory ran out
pub record IsDecidedBy (held : Held) (command : Command) (s : Seen) (status : ℕ) : Type 0 where
  pub wrong : (rule : Rule) (position : Position) → IsWrongOf held command rule position
      → (Rose s.faults s.faults_now → ⊥) → (status ≡ 2) ⊎ (status ≡ 5)
  pub right : ((rule : Rule) (position : Position) → IsWrongOf held command rule position → ⊥)
      → (Rose s.faults s.faults_now → ⊥) → (Rose s.writes s.writes_now → ⊥)
      → (status ≡ 0) ⊎ (status ≡ 5)
