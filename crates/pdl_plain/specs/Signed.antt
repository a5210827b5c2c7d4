-- Words as two's complement, as whole numbers.
use Rattle.std.specs.Prelude.{◌≡◌, ℕ, ℤ, pos, ◌-ℤ◌, ◌-◌, ◌^◌, ◌<◌, ◌≤◌, nat_lt, int_lt, if◌then◌else◌}
use Rattle.pdl_word.specs.Words.{bit, lts, sext}

-- the whole number that a word of w bits is: itself where its top bit is 0, and else less by 2 ^ w
abbrev pub to_signed : ℕ → ℕ → ℤ
to_signed w a = if nat_lt a (2 ^ (w - 1)) then pos a else pos a -ℤ pos (2 ^ w)

-- `lts` of two words compares their whole numbers
abbrev pub ComparesNumbers : Type 0
ComparesNumbers = (w a b : ℕ) → 1 ≤ w → a < 2 ^ w → b < 2 ^ w → lts w a b ≡ bit (int_lt (to_signed w a) (to_signed w b))

-- `sext` of a word of w bits is a word of n bits, and just the one that is the same whole number
pub record IsExtended (w n a : ℕ) : Type 0 where
  pub below : sext w n a < 2 ^ n
  pub same : to_signed n (sext w n a) ≡ to_signed w a
  pub only : (x : ℕ) → x < 2 ^ n → to_signed n x ≡ to_signed w a → x ≡ sext w n a

-- that of each word, for each number of bits that isn't less than its own
abbrev pub ExtendsNumbers : Type 0
ExtendsNumbers = (w n a : ℕ) → 1 ≤ w → w ≤ n → a < 2 ^ w → IsExtended w n a
