-- What the whole program does: a line of words, files to read, and two sinks.
use Rattle.std.specs.Prelude.{◌≡◌, ◌≤◌, ℕ, ◌⊎◌, Bool, IsTrue, List, Option, Some, None, Result, ⊤}
use Rattle.pdl_kit.specs.declared.rule.Rule.{Rule}
use Rattle.pdl_kit.specs.Counts.{Rose}
use Rattle.pdl_cli_args.specs.Line.{Command, check, run, seq, asm, gen, build, sim, wave, view}
use Rattle.pdl_cli_failure.specs.declared.failure.Position.{Position}
use Rattle.pdl_cli_failure.specs.declared.failure.Failure.{Failure}
use Rattle.pdl_cli_failure.specs.Failures.{status_of, text_of}
use Rattle.pdl_cli_commands.specs.Replies.{AllowsFile}
use Rattle.pdl_cli_commands.specs.Commands.{IsWrongFor}
use Rattle.pdl_cli_commands.specs.Reading.{HasFailed, texts}
use Rattle.pdl_cli_commands.specs.Outcomes.{Seen, Explains}

-- the files that a command names may be read
abbrev pub Allows : (List ℕ → Bool) → Option Command → Type 0
Allows may None = ⊤
Allows may (Some (check source)) = IsTrue (may source)
Allows may (Some (run source image cycles delays)) = IsTrue (may source) × IsTrue (may image) × AllowsFile may delays
Allows may (Some (seq source image threads)) = IsTrue (may source) × IsTrue (may image)
Allows may (Some (asm table program)) = IsTrue (may table) × IsTrue (may program)
Allows may (Some (gen number)) = ⊤
Allows may (Some (build source)) = IsTrue (may source)
Allows may (Some (sim v image cycles delays)) = IsTrue (may v) × IsTrue (may image) × AllowsFile may delays
Allows may (Some (wave source image cycles delays)) = IsTrue (may source) × IsTrue (may image) × AllowsFile may delays
Allows may (Some (view source image cycles delays)) = IsTrue (may source) × IsTrue (may image) × AllowsFile may delays

-- a run is of at most 1,000,000 cycles
abbrev pub IsFew : Command → Type 0
IsFew (check source) = ⊤
IsFew (run source image cycles delays) = cycles ≤ 1000000
IsFew (seq source image threads) = ⊤
IsFew (asm table program) = ⊤
IsFew (gen number) = ⊤
IsFew (build source) = ⊤
IsFew (sim v image cycles delays) = cycles ≤ 1000000
IsFew (wave source image cycles delays) = cycles ≤ 1000000
IsFew (view source image cycles delays) = cycles ≤ 1000000

-- the status is that of an outcome, done or a failure, that what is seen explains, and its text is said
abbrev pub Answers : Option Command → Seen → (List ℕ → Type 0) → ℕ → Type 0
Answers command s Said status =
    (o : Result (Unit {0}) Failure)
    × (status ≡ status_of o) × Explains command s o × Said (text_of o)

-- the status of a command is decided by what is seen, but that memory may have run out: not 1; 2 where the last text that was read is wrong; 3 where a file was not read; 0 where no text is wrong and nothing failed
pub record IsDecided (command : Command) (s : Seen) (status : ℕ) : Type 0 where
  pub usage : status ≡ 1 → ⊥
  pub wrong : (rule : Rule) (position : Position) → IsWrongFor command (texts s.reads) rule position
      → (status ≡ 2) ⊎ (status ≡ 5)
  pub failed : HasFailed s.reads → (status ≡ 3) ⊎ (status ≡ 5)
  pub right : ((rule : Rule) (position : Position) → IsWrongFor command (texts s.reads) rule position → ⊥)
      → (Rose s.faults s.faults_now → ⊥) → (Rose s.writes s.writes_now → ⊥)
      → (status ≡ 0) ⊎ (status ≡ 5)

-- the status is decided by what is seen: 1 where the words are no command
abbrev pub Decides : Option Command → Seen → ℕ → Type 0
Decides None s status = (status ≡ 1) ⊎ (status ≡ 5)
Decides (Some command) s status = IsDecided command s status
