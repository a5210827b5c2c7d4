-- How far a place can be from 0.
use Rattle.std.specs.Prelude.{ℕ, ◌+◌, ◌^◌, pos, neg_ℤ, ◌≤ℤ◌, ℤ}

-- a place that so many lines can come to
abbrev pub IsNear : ℕ → ℤ → Type 0
IsNear count place = (neg_ℤ (pos (10 ^ 39)) ≤ℤ place) × (place ≤ℤ pos (10 ^ 39 + count))
