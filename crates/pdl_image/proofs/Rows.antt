-- The definitions at small files.
use Rattle.std.proofs.Common.{◌≡◌, ℕ, refl, List, [], ◌∷◌, ◌++◌, false, Result, Ok, Err, codes}
use Rattle.pdl_kit.specs.declared.mem_info.MemInfo.{MemInfo}
use Rattle.pdl_kit.specs.declared.rule.Rule.{Rule}
use Rattle.pdl_kit.specs.declared.rule.Rule.TheVariants.{I1, I2, I3, I4, I5, I6, I7}
use Rattle.pdl_image.specs.Lines.{lines}
use Rattle.pdl_image.specs.Images.{ends_of, image, first_wrong, broken_rule, words_in, fields, given_value}
use Rattle.pdl_image.specs.declared.file_error.FileError.{FileError}
use Rattle.pdl_image.specs.declared.file_error.FileError.TheVariants.{Refused}

-- two memories, m of four words of 8 bits and k2 of two words of 64 bits
mems : List MemInfo
mems =
    record { name = codes "m"; width = 8; depth = 4; delayed = false }
    ∷ record { name = codes "k2"; width = 64; depth = 2; delayed = false } ∷ []

feed : List ℕ
feed = 10 ∷ []

header : List ℕ
header = codes "image 1" ++ feed

zeros : Result (List (List ℕ)) FileError
zeros = Ok ((0 ∷ 0 ∷ 0 ∷ 0 ∷ []) ∷ (0 ∷ 0 ∷ []) ∷ [])

-- lines end with a line feed, which the last one may lack
parted : (lines [] ≡ []) × (lines feed ≡ [] ∷ []) × (lines (codes "a" ++ feed) ≡ codes "a" ∷ [])
    × (lines (codes "a" ++ feed ++ feed ++ codes "b") ≡ codes "a" ∷ [] ∷ codes "b" ∷ [])
unfolding lines feed
parted = (refl, refl, refl, refl)

no_header : (image mems [] ≡ Err (Refused I1 1)) × (image mems (codes "image ") ≡ Err (Refused I1 1))
    × (image mems (feed ++ header) ≡ Err (Refused I1 1)) × (image mems (codes "image 3") ≡ Err (Refused I1 1))
    × (image mems (codes "image 1 ") ≡ Err (Refused I1 1))
unfolding image lines feed header mems
no_header = (refl, refl, refl, refl, refl)

-- nothing given
empty : (image mems (codes "image 1") ≡ zeros) × (image mems header ≡ zeros)
    × (image mems (header ++ feed ++ codes "//1 2 3" ++ feed ++ feed) ≡ zeros)
unfolding image lines feed header mems zeros first_wrong broken_rule words_in ends_of fields given_value
empty = (refl, refl, refl)

-- words given, the last address and the greatest values among them
words : image mems (header ++ codes "m 3 ff" ++ feed ++ codes "k2 01 ffffffffffffffff" ++ feed ++ codes "m 0000000000 0a")
    ≡ Ok ((10 ∷ 0 ∷ 0 ∷ 255 ∷ []) ∷ (0 ∷ 0xffff_ffff_ffff_ffff ∷ []) ∷ [])
unfolding image lines feed header mems first_wrong broken_rule words_in ends_of fields given_value
words = refl

refused : Rule → ℕ → List ℕ → Type 0
refused rule line text = image mems (header ++ text) ≡ Err (Refused rule line)

-- a line's form
formless : refused I2 2 (codes "m 0") × refused I2 2 (codes "m  0 0") × refused I2 2 (codes "m 0 0 ")
    × refused I2 2 (codes " m 0 0") × refused I2 2 (codes "M 0 0") × refused I2 2 (codes "R 0 0")
    × refused I2 2 (codes "2k 0 0") × refused I2 2 (codes "m x 0") × refused I2 2 (codes "m 0 A")
    × refused I2 2 (codes "m 00000000000 0") × refused I2 2 (codes "m 0 000000000000000000000000000000000") × refused I2 2 (codes "m 0..1 0") × refused I2 2 (codes "/ m")
    × refused I2 3 (feed ++ codes " ")
unfolding refused image lines feed header mems first_wrong broken_rule words_in ends_of fields given_value
formless = (refl, refl, refl, refl, refl, refl, refl, refl, refl, refl, refl, refl, refl, refl)

-- a name of 33 characters has no form, and one of 32, or a keyword, isn't there
names : refused I2 2 (codes "aaaaaaaaaaaaaaaaaaaaaaaaaaaaaaaaa 0 0")
    × refused I3 2 (codes "aaaaaaaaaaaaaaaaaaaaaaaaaaaaaaaa 0 0") × refused I3 2 (codes "pipe 0 0")
    × refused I3 2 (codes "x_1 9 999")
unfolding refused image lines feed header mems first_wrong broken_rule words_in ends_of fields given_value
names = (refl, refl, refl, refl)

-- the address is asked before the value, and both before a word that was given
ranges : refused I4 2 (codes "m 4 00") × refused I4 2 (codes "m 4 100") × refused I5 2 (codes "m 0 100")
    × refused I5 3 (codes "m 0 1" ++ feed ++ codes "m 0 100") × refused I6 3 (codes "m 0 1" ++ feed ++ codes "m 0 1")
    × refused I6 4 (codes "m 0 1" ++ feed ++ feed ++ codes "m 00 2")
unfolding refused image lines feed header mems first_wrong broken_rule words_in ends_of fields given_value
ranges = (refl, refl, refl, refl, refl, refl)

-- of two wrong lines the lower one
lowest : refused I4 2 (codes "m 4 0" ++ feed ++ codes "m 0") × refused I6 3 (codes "m 1 1" ++ feed ++ codes "m 1 1" ++ feed ++ codes "m")
unfolding refused image lines feed header mems first_wrong broken_rule words_in ends_of fields given_value
lowest = (refl, refl)

-- a value of 17 digits is read, and then too great
long_value : refused I5 2 (codes "k2 0 10000000000000000") × refused I5 2 (codes "m 0 00000000000000000000000000000100")
unfolding refused image lines feed header mems first_wrong broken_rule words_in ends_of fields given_value
long_value = (refl, refl)

-- ---- ranges

one : List MemInfo
one = record { name = codes "m"; width = 8; depth = 4; delayed = false } ∷ []

second : List ℕ
second = codes "image 2" ++ feed

-- both ends are meant
ranged : (image one (second ++ codes "m 0..2 7") ≡ Ok ((7 ∷ 7 ∷ 7 ∷ 0 ∷ []) ∷ []))
    × (image one (second ++ codes "m 1..1 7") ≡ Ok ((0 ∷ 7 ∷ 0 ∷ 0 ∷ []) ∷ []))
    × (image one (second ++ codes "m 00..03 ff") ≡ Ok ((255 ∷ 255 ∷ 255 ∷ 255 ∷ []) ∷ []))
    × (image one (second ++ codes "m 3 1" ++ feed ++ codes "m 0..2 7") ≡ Ok ((7 ∷ 7 ∷ 7 ∷ 1 ∷ []) ∷ []))
unfolding image lines feed second one first_wrong broken_rule words_in ends_of fields given_value
ranged = (refl, refl, refl, refl)

refused_second : Rule → ℕ → List ℕ → Type 0
refused_second rule line text = image one (second ++ text) ≡ Err (Refused rule line)

-- a range that ends before it begins, one that ends past the memory, and one of which a word was given
wrong_ranges : refused_second I7 2 (codes "m 2..1 0") × refused_second I4 2 (codes "m 0..4 0") × refused_second I4 2 (codes "m 4..0 0")
    × refused_second I6 3 (codes "m 0..2 7" ++ feed ++ codes "m 2 1") × refused_second I6 3 (codes "m 1 1" ++ feed ++ codes "m 0..2 7")
    × refused_second I5 2 (codes "m 2..1 100") × refused_second I7 3 (codes "m 0..3 1" ++ feed ++ codes "m 2..1 1")
unfolding refused_second image lines feed second one first_wrong broken_rule words_in ends_of fields given_value
wrong_ranges = (refl, refl, refl, refl, refl, refl, refl)

-- the form of a range
formless_ranges : refused_second I2 2 (codes "m 0.2 7") × refused_second I2 2 (codes "m 0...2 7") × refused_second I2 2 (codes "m ..2 7")
    × refused_second I2 2 (codes "m 0.. 7") × refused_second I2 2 (codes "m 0..1..2 7") × refused_second I2 2 (codes "m 0 .. 2 7")
    × refused_second I2 2 (codes "m 0..00000000002 7")
unfolding refused_second image lines feed second one first_wrong broken_rule words_in ends_of fields given_value
formless_ranges = (refl, refl, refl, refl, refl, refl, refl)
