-- Numbers of the command line.
use Rattle.std.specs.Prelude.{ℕ, List, Bool, Option, Some, None, length, nat_lt, nat_le, ◌&&◌, if◌then◌else◌}
use Rattle.std.specs.List.{list_all}
use Rattle.std.specs.Char.{is_ascii_digit}
use Rattle.std.specs.Str.Parse.{digits_value}

-- whether a text is 1 to `most_digits` decimal digits
abbrev pub is_numeral_of : ℕ → List ℕ → Bool
is_numeral_of most_digits text = nat_lt 0 (length text) && nat_le (length text) most_digits && list_all is_ascii_digit text

-- the number that 1 to `most_digits` decimal digits write, if it is at most `most`
abbrev pub number_of : ℕ → ℕ → List ℕ → Option ℕ
number_of most_digits most text =
    if is_numeral_of most_digits text && nat_le (digits_value 10 text) most
    then Some (digits_value 10 text)
    else None
