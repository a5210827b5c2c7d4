-- The word of an instruction, by the places of each letter among its bits.
use Rattle.std.specs.Prelude.{◌≡◌, ℕ, zero, suc, ◌/◌, ◌%◌, ◌^◌, ◌<◌, ◌==◌, List, [], ◌∷◌, ◌++◌, length, map, if◌then◌else◌}
use Rattle.pdl_asm.specs.Values.{word_of_bits}

-- the places at which a letter stands, the lowest first: bits are written highest first, so the last one's place is 0
abbrev pub places_of : ℕ → List ℕ → List ℕ
places_of c [] = []
places_of c (b ∷ right) = places_of c right ++ (if b == c then length right ∷ [] else [])

-- the bit at a place of a number
abbrev pub bit_at : ℕ → ℕ → ℕ
bit_at n place = n / 2 ^ place % 2

-- what stands at the k-th place of a letter: of `0` and `1` (48 and 49) these, and of any other letter bit k of its value
abbrev pub bit_of_letter : (ℕ → ℕ) → ℕ → ℕ → ℕ
bit_of_letter value c k = if c == 48 then 0 else if c == 49 then 1 else bit_at (value c) k

-- what stands at its first n places
abbrev pub bits_of_letter : (ℕ → ℕ) → ℕ → ℕ → List ℕ
bits_of_letter value c zero = []
bits_of_letter value c (suc n) = bits_of_letter value c n ++ bit_of_letter value c n ∷ []

-- a number of as many bits, which at the places of each letter has that letter's bits
pub record IsWordOf (value : ℕ → ℕ) (bits : List ℕ) (word : ℕ) : Type 0 where
  pub below : word < 2 ^ length bits
  pub at : (c : ℕ) → map (bit_at word) (places_of c bits) ≡ bits_of_letter value c (length (places_of c bits))

-- the word of bits is such a number
abbrev pub HasEachLetter : Type 0
HasEachLetter = (value : ℕ → ℕ) (bits : List ℕ) → IsWordOf value bits (word_of_bits value bits)
