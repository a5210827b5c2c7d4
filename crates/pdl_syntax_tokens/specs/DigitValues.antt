-- The value of digits, one digit after the other, as long as it fits the widest word.
use Rattle.std.specs.Prelude.{ℕ, ◌+◌, ◌*◌, Option, Some, None}
use Rattle.pdl_syntax_tokens.specs.Tokens.{digit_value, fitting}

-- a value with one more digit, none where it was none or no longer fits
abbrev pub with_digit : ℕ → Option ℕ → ℕ → Option ℕ
with_digit base None c = None
with_digit base (Some v) c = fitting (v * base + digit_value c)
