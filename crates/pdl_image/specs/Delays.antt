-- What a delay file is: a row for each cycle, from the first one on, with the reply bit of each delayed memory.
use Rattle.std.specs.Prelude.{◌≡◌, ℕ, ◌+◌, ◌-◌, ◌*◌, ◌==◌, nat_lt, Bool, not, ◌||◌, List, [], ◌∷◌, length, map, slice_index_or, Option, Some, None, Result, Ok, Err, if◌then◌else◌}
use Rattle.std.specs.List.{list_all}
use Rattle.pdl_kit.specs.declared.rule.Rule.{Rule}
use Rattle.pdl_kit.specs.declared.rule.Rule.TheVariants.{Y1, Y2, Y3}
use Rattle.pdl_image.specs.Images.{at_line, IsRefusal}
use Rattle.pdl_image.specs.Lines.{lines}
use Rattle.pdl_image.specs.declared.file_error.FileError.{FileError}

-- the character `0` or `1`
abbrev pub is_bit : ℕ → Bool
is_bit c = c == 48 || c == 49

-- the lowest rule that a row breaks, where it is given its number and how many delayed memories there are: Y1 asks its characters, Y2 its length, Y3 that there are at most 1,000,000 rows
unfoldable pub broken_row : ℕ → ℕ → List ℕ → Option Rule
broken_row count number row =
    if not (list_all is_bit row) then Some Y1
    else if not (length row == count) then Some Y2
    else if nat_lt 1000000 number then Some Y3
    else None

-- the refusal at the first row that breaks a rule, where the first of the rows has a number
unfoldable pub first_wrong_row : ℕ → ℕ → List (List ℕ) → Option FileError
first_wrong_row count number [] = None
first_wrong_row count number (row ∷ more) =
    at_line number (broken_row count number row) (first_wrong_row count (number + 1) more)

-- a row as a number, whose lowest bit is that of the first delayed memory
unfoldable pub row_word : List ℕ → ℕ
row_word [] = 0
row_word (c ∷ cs) = (if c == 49 then 1 else 0) + 2 * row_word cs

-- the rows as numbers, unless one is refused
abbrev pub rows_of : List (List ℕ) → Option FileError → Result (List ℕ) FileError
rows_of rows None = Ok (map row_word rows)
rows_of rows (Some refusal) = Err refusal

-- the reply bits of each cycle that a file gives for so many delayed memories, or its refusal: the lowest wrong row, there the lowest rule
unfoldable pub delays : ℕ → List ℕ → Result (List ℕ) FileError
delays count text = rows_of (lines text) (first_wrong_row count 1 (lines text))

-- the reply bits of a cycle, counted from 1: those of its row, and after the last row all are 1
abbrev pub bits_in : List ℕ → ℕ → ℕ
bits_in rows cycle = slice_index_or rows (cycle - 1) 65535

-- rows were taken one after another, or the refusal of the first wrong one is the answer
abbrev pub AreRowsTaken : ℕ → List (List ℕ) → Result (Unit {0}) FileError → List ℕ → Type 0
AreRowsTaken count rows (Ok _) words =
    (first_wrong_row count 1 rows ≡ None) × (words ≡ map row_word rows)
AreRowsTaken count rows (Err refusal) words = IsRefusal (rows_of rows (first_wrong_row count 1 rows)) refusal
