-- What has been given to each address of each memory, while lines are taken one after another.
use Rattle.std.specs.Prelude.{◌≡◌, ℕ, zero, suc, ◌+◌, ◌^◌, nat_le, nat_lt, Bool, ◌||◌, List, [], ◌∷◌, ◌++◌, length, map, slice_index_or, slice_set, Option, Some, None, Result, Ok, Err, if◌then◌else◌}
use Rattle.std.specs.List.{range_with_len, AllZip}
use Rattle.pdl_kit.specs.declared.mem_info.MemInfo.{MemInfo}
use Rattle.pdl_kit.specs.declared.rule.Rule.{Rule}
use Rattle.pdl_kit.specs.declared.rule.Rule.TheVariants.{I4, I5, I6, I7}
use Rattle.pdl_image.specs.Images.{broken_rule, given_value, first_wrong, is_any_given, size_of}
use Rattle.pdl_image.specs.declared.file_error.FileError.{FileError}
use Rattle.pdl_image.specs.declared.word.Ends.{Ends}

-- the values that lines give to a memory's addresses
unfoldable pub slots_of : Bool → List (List ℕ) → MemInfo → List (Option ℕ)
slots_of ranged before m = map (λ address. given_value ranged before m.name address) (range_with_len 0 m.depth)

-- the values that lines give to each memory's addresses
unfoldable pub all_slots : Bool → List MemInfo → List (List ℕ) → List (List (Option ℕ))
all_slots ranged mems before = map (slots_of ranged before) mems

-- there is a slot for each address of each memory
unfoldable pub IsFor : List MemInfo → List (List (Option ℕ)) → Type 0
IsFor mems slots = AllZip (λ m row. length row ≡ m.depth) mems slots

-- the slot of an address
abbrev pub slot_at : List (Option ℕ) → ℕ → Option ℕ
slot_at slots address = slice_index_or slots address None

-- the lowest rule that what a line gives breaks, by what its memory's addresses were given
unfoldable pub broken_at : MemInfo → List (Option ℕ) → Ends → ℕ → Option Rule
broken_at m slots ends value =
    if nat_le m.depth ends.from || nat_le m.depth ends.to then Some I4
    else if nat_le (2 ^ m.width) value then Some I5
    else if nat_lt ends.to ends.from then Some I7
    else if is_any_given (slot_at slots) ends.from (size_of ends) then Some I6
    else None

-- slots of which n from a place on get a value
abbrev pub filled : List (Option ℕ) → ℕ → ℕ → ℕ → List (Option ℕ)
filled slots from zero value = slots
filled slots from (suc n) value = slice_set (filled slots from n value) (from + n) (Some value)

-- a line was taken after those before it, or the lowest rule that it breaks is the answer
abbrev pub Follows : Bool → List MemInfo → List (List ℕ) → List ℕ → Result (Unit {0}) Rule → List (List (Option ℕ)) → Type 0
Follows ranged mems before line (Ok _) slots = (broken_rule ranged mems before line ≡ None) × (slots ≡ all_slots ranged mems (before ++ line ∷ []))
Follows ranged mems before line (Err rule) slots = broken_rule ranged mems before line ≡ Some rule

-- the lines after the first one were taken, or the first wrong one is the answer
abbrev pub AreTaken : Bool → List MemInfo → List (List ℕ) → Result (Unit {0}) FileError → List (List (Option ℕ)) → Type 0
AreTaken ranged mems rest (Ok _) slots = (first_wrong ranged mems [] 2 rest ≡ None) × (slots ≡ all_slots ranged mems rest)
AreTaken ranged mems rest (Err refusal) slots = first_wrong ranged mems [] 2 rest ≡ Some refusal
