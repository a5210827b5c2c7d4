-- The digits that texts write numbers with.
use Rattle.std.specs.Prelude.{ℕ, zero, suc, ◌+◌, ◌/◌, ◌%◌, Bool, not, ◌&&◌, nat_le, nat_lt, if◌then◌else◌, List, [], ◌∷◌, ◌++◌, length}
use Rattle.std.specs.Char.{digit_value}
use Rattle.std.specs.List.{list_all}

-- the most hexadecimal digits that a word is written with
abbrev pub most_hex : ℕ
most_hex = 32

-- the most decimal digits that a word is written with
abbrev pub most_decimal : ℕ
most_decimal = 39

-- a digit of a base up to 36, where a letter is a lower one
abbrev pub is_digit_of : ℕ → ℕ → Bool
is_digit_of base c = nat_lt (digit_value c) base && not (nat_le 65 c && nat_le c 90)

-- digits of a base, at least one and at most so many
abbrev pub are_digits : ℕ → ℕ → List ℕ → Bool
are_digits base most ds = list_all (is_digit_of base) ds && (nat_le 1 (length ds) && nat_le (length ds) most)

-- a lower hexadecimal digit
abbrev pub hex_digit : ℕ → ℕ
hex_digit d = if nat_lt d 10 then 48 + d else 87 + d

-- the lowest n hexadecimal digits of a number, the highest of them first
abbrev pub hex : ℕ → ℕ → List ℕ
hex zero v = []
hex (suc n) v = hex n (v / 16) ++ hex_digit (v % 16) ∷ []
