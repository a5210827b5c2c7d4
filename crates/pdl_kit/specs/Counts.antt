-- Counts of faults and of calls.
use Rattle.std.specs.Prelude.{ℕ, ◌+◌, ◌-◌, ◌^◌, ◌≤◌, min, Result, OnErr}

-- one more, up to the last value of a 64-bit counter, where it stands
abbrev pub raised_count : ℕ → ℕ
raised_count count = min (count + 1) (2 ^ 64 - 1)

-- a count rose, or stands at the last value of a counter
abbrev pub Rose : ℕ → ℕ → Type 0
Rose before now = raised_count before ≤ now

-- the count has not fallen, and an error comes only where it rose
pub record HasCause {T E : Type 0} (before now : ℕ) (result : Result T E) : Type 0 where
  pub later : before ≤ now
  pub failed : OnErr result (Rose before now)
