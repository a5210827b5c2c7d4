-- Files in memory, and which reads of them fail.
use Rattle.std.specs.Prelude.{ℕ, ◌<◌, ◌⊎◌, List, [], ◌∷◌, ◌++◌, length, Option, Some, None, Contains, Result, Ok, Err, Vec, map, nat_eq, if◌then◌else◌}
use Rattle.std.specs.Cmp.Lexicographic.{pointwise}
use Rattle.std.specs.FinMap as fin
use Rattle.std.specs.declared.alloc.Global.{Global}
use Rattle.pdl_kit.specs.Counts.{raised_count}
use Rattle.pdl_system.specs.Answers.{Answer, gave, failed}
use Rattle.pdl_system.specs.Files.{Held, bytes_of}
use Rattle.pdl_kit.specs.declared.files.ReadError.{ReadError}
use Rattle.pdl_kit.specs.declared.files.ReadError.TheVariants.{Failed, NoMemory}
use Rattle.pdl_kit.specs.declared.files.TheConstants.{LONGEST_FILE}
use Rattle.pdl_system.specs.declared.mem_file.MemFile.{MemFile}

-- the files, the numbers of the calls that are to fail, what reads answered so far, and how many calls and faults there were
pub record State : Type 0 where
  pub files : List MemFile
  pub failing : List ℕ
  pub answers : List Answer
  pub calls : ℕ
  pub faults : ℕ

-- the bytes by name; of a name that stands twice, the first
abbrev pub held_of : List MemFile → Held
held_of files = fin.from_entries (map (λ f. (f.name, f.bytes)) files)

-- the bytes of the first file with the name
abbrev pub found_in : List MemFile → List ℕ → Option (List ℕ)
found_in [] name = None
found_in (f ∷ fs) name = if pointwise nat_eq name f.name then Some f.bytes else found_in fs name

-- there is no such file, or it is too long
abbrev pub IsMissingOrTooLong : Option (List ℕ) → Type 0
IsMissingOrTooLong None = Unit {0}
IsMissingOrTooLong (Some bytes) = LONGEST_FILE < length bytes

-- a read fails: its call, of which the first is 1, is listed, or the name is missing or its file too long
abbrev pub ReadFails : State → List ℕ → Type 0
ReadFails s name = Contains s.failing (raised_count s.calls) ⊎ IsMissingOrTooLong (bytes_of (held_of s.files) name)

-- a read counts as a call, and as a fault where it failed
abbrev pub after_read : State → List ℕ → Result (Vec ℕ Global) ReadError → State
after_read s name (Ok bytes) = record s { answers = s.answers ++ gave name bytes.items ∷ []; calls = raised_count s.calls }
after_read s name (Err Failed) =
    record s { answers = s.answers ++ failed name ∷ []; calls = raised_count s.calls; faults = raised_count s.faults }
after_read s name (Err NoMemory) = record s { answers = s.answers ++ failed name ∷ []; calls = raised_count s.calls }
