-- The replies of delayed memories in a run: those of the delay file that a command names, or all of them.
use Rattle.std.specs.Prelude.{◌≡◌, ℕ, List, [], ◌∷◌, Bool, IsTrue, Option, Some, None, Ok, Err, replicate, ⊤}
use Rattle.pdl_kit.specs.declared.rule.Rule.{Rule}
use Rattle.pdl_image.specs.Delays.{delays}
use Rattle.pdl_image.specs.declared.file_error.FileError.TheVariants as file
use Rattle.pdl_netrun_lines.specs.Printed.{schedule as scheduled}

-- a file that may be left out may be read
abbrev pub AllowsFile : (List ℕ → Bool) → Option (List ℕ) → Type 0
AllowsFile may None = ⊤
AllowsFile may (Some name) = IsTrue (may name)

-- in each of so many cycles all requests are answered: each reply bit is 1
abbrev pub all_answered : ℕ → List ℕ
all_answered cycles = replicate cycles 65535

-- the reply bits of a run of so many cycles with so many delayed memories, by the texts of its delay files, of which there is one or none: all are 1 where there is none; else they are those of its rows, and after the last row all are 1
abbrev pub IsSchedule : List (List ℕ) → ℕ → ℕ → List ℕ → Type 0
IsSchedule [] count cycles schedule = schedule ≡ all_answered cycles
IsSchedule (text ∷ more) count cycles schedule =
    (rows : List ℕ) × (delays count text ≡ Ok rows) × (schedule ≡ scheduled rows cycles)

-- the text of a delay file is refused by the rule at the line
abbrev pub DelaysRefused : ℕ → List ℕ → Rule → ℕ → Type 0
DelaysRefused count text rule line = delays count text ≡ Err (file.Refused rule line)
