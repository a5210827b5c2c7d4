-- Whole numbers beside words.
use Rattle.std.specs.Prelude.{ℕ, ℤ, pos, negsuc, neg_ℤ, ◌^◌, ◌≤ℤ◌, ◌<ℤ◌, ◌⊎◌, nat_lt, Option, Some, None, if◌then◌else◌}
use Rattle.pdl_word.specs.Words.{widest}

-- a number as a word, if it is one
abbrev pub as_word : ℤ → Option ℕ
as_word (pos n) = if nat_lt n (2 ^ widest) then Some n else None
as_word (negsuc n) = None

-- a number so far from 0 that it has more bits than the widest word
abbrev pub IsFar : ℤ → Type 0
IsFar z = (z <ℤ neg_ℤ (pos (2 ^ widest))) ⊎ (pos (2 ^ widest) ≤ℤ z)

-- a number as an address, 0 to 65,535, if it is one
abbrev pub address_of : ℤ → Option ℕ
address_of (pos n) = if nat_lt n 65536 then Some n else None
address_of (negsuc n) = None
