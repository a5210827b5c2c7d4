-- The line of the first place that breaks a rule, with one place more.
use Rattle.std.specs.Prelude.{ℕ, Bool, if◌then◌else◌, Option, Some, None}

-- the line that is noted with one place more: the first one, or else that of this place if it breaks the rule
abbrev pub noted_line : Option ℕ → Bool → ℕ → Option ℕ
noted_line (Some first) broken line = Some first
noted_line None broken line = if broken then Some line else None
