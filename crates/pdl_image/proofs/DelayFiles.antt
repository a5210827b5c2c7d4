-- The definition of delay files at small ones.
use Rattle.std.proofs.Common.{◌≡◌, ℕ, refl, List, [], ◌∷◌, ◌++◌, Some, None, Ok, Err, codes}
use Rattle.pdl_kit.specs.declared.rule.Rule.TheVariants.{Y1, Y2, Y3}
use Rattle.pdl_image.specs.Lines.{lines}
use Rattle.pdl_image.specs.Delays.{delays, bits_in, broken_row, first_wrong_row, row_word}
use Rattle.pdl_image.specs.declared.file_error.FileError.TheVariants.{Refused}

feed : List ℕ
feed = 10 ∷ []

-- one delayed memory: the reply comes in the fourth cycle, and after the last row in each
one_memory : delays 1 (codes "0" ++ feed ++ codes "0" ++ feed ++ codes "0" ++ feed ++ codes "1") ≡ Ok (0 ∷ 0 ∷ 0 ∷ 1 ∷ [])
unfolding delays lines feed first_wrong_row broken_row row_word
one_memory = refl

after_the_rows : (bits_in (0 ∷ 1 ∷ []) 1 ≡ 0) × (bits_in (0 ∷ 1 ∷ []) 2 ≡ 1) × (bits_in (0 ∷ 1 ∷ []) 3 ≡ 65535)
after_the_rows = (refl, refl, refl)

-- two of them: the first character is the first memory's
two_memories : delays 2 (codes "10" ++ feed ++ codes "01" ++ feed) ≡ Ok (1 ∷ 2 ∷ [])
unfolding delays lines feed first_wrong_row broken_row row_word
two_memories = refl

-- none, and a file without rows
no_memory : (delays 0 (feed ++ feed) ≡ Ok (0 ∷ 0 ∷ [])) × (delays 1 [] ≡ Ok [])
unfolding delays lines feed first_wrong_row broken_row row_word
no_memory = (refl, refl)

-- the lowest wrong row, there the lowest rule
wrong_rows : (delays 1 (codes "0" ++ feed ++ codes "00") ≡ Err (Refused Y2 2))
    × (delays 1 (codes "x") ≡ Err (Refused Y1 1)) × (delays 1 (codes "0" ++ feed ++ codes "2222") ≡ Err (Refused Y1 2))
    × (delays 0 (codes "1") ≡ Err (Refused Y2 1))
unfolding delays lines feed first_wrong_row broken_row row_word
wrong_rows = (refl, refl, refl, refl)

-- the 1,000,001st row is one too many
too_many : (broken_row 1 1000000 (codes "1") ≡ None) × (broken_row 1 1000001 (codes "1") ≡ Some Y3)
    × (broken_row 1 1000001 (codes "11") ≡ Some Y2)
unfolding broken_row
too_many = (refl, refl, refl)
