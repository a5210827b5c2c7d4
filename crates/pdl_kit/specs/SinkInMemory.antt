-- A sink in memory, what a write takes, and when it fails.
use Rattle.std.specs.Prelude.{◌≡◌, ℕ, ◌-◌, ◌<◌, ◌≤◌, ◌⊎◌, List, ◌++◌, length, take, min, Contains, Result, Ok, Err}
use Rattle.pdl_kit.specs.Counts.{raised_count}

-- the bytes written, the greatest number of bytes in all and in one call, the numbers of the calls that are to fail, and how many calls and faults there were
pub record State : Type 0 where
  pub written : List ℕ
  pub room : ℕ
  pub most : ℕ
  pub failing : List ℕ
  pub calls : ℕ
  pub faults : ℕ

-- how much of a piece a write takes: as much as the room that is left and the greatest number of a call allow
abbrev pub taken_length : State → List ℕ → ℕ
taken_length s piece = min (min (length piece) (s.room - length s.written)) s.most

-- a write fails: its call, of which the first is 1, is listed, or the piece isn't empty and nothing of it can be taken
abbrev pub WriteFails : State → List ℕ → Type 0
WriteFails s piece = Contains s.failing (raised_count s.calls) ⊎ ((0 < length piece) × ((s.room ≤ length s.written) ⊎ (s.most ≡ 0)))

-- a write counts as a call; it appends what it takes, or counts as a fault
abbrev pub after_write : {E : Type 0} → State → List ℕ → Result ℕ E → State
after_write s piece (Ok n) = record s { written = s.written ++ take n piece; calls = raised_count s.calls }
after_write s piece (Err e) = record s { calls = raised_count s.calls; faults = raised_count s.faults }
