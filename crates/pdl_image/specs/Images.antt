-- What an image file is: the line `image 1` or `image 2`, and then lines that give words of memories, of which the second kind may give many at once.
use Rattle.std.specs.Prelude.{◌≡◌, ℕ, zero, suc, ◌+◌, ◌-◌, ◌^◌, ◌<◌, ◌==◌, nat_eq, nat_le, nat_lt, Bool, true, false, ◌&&◌, ◌||◌, List, [], ◌∷◌, ◌++◌, length, take, drop, map, option_map, slice_index, slice_index_or, Option, Some, None, is_some, unwrap_or, Result, Ok, Err, codes, if◌then◌else◌}
use Rattle.std.specs.List.{list_all, find, position, slice_split, starts_with, range_with_len}
use Rattle.std.specs.Str.{bytes_eq}
use Rattle.std.specs.Str.Parse.{digits_value}
use Rattle.pdl_kit.specs.declared.mem_info.MemInfo.{MemInfo}
use Rattle.pdl_kit.specs.declared.rule.Rule.{Rule}
use Rattle.pdl_kit.specs.declared.rule.Rule.TheVariants.{I1, I2, I3, I4, I5, I6, I7}
use Rattle.pdl_image.specs.Lines.{lines}
use Rattle.pdl_image.specs.declared.file_error.FileError.{FileError}
use Rattle.pdl_image.specs.declared.file_error.FileError.TheVariants.{Refused, NoMemory}
use Rattle.pdl_image.specs.declared.word.Ends.{Ends}
use Rattle.pdl_word.specs.Digits.{is_digit_of, are_digits, most_hex}

-- a lower letter
abbrev pub is_letter : ℕ → Bool
is_letter c = nat_le 97 c && nat_le c 122

-- what may follow a name's first letter: letters, digits and `_`
abbrev pub is_name_byte : ℕ → Bool
is_name_byte c = is_letter c || (is_digit_of 10 c || c == 95)

-- a name of at most 32 characters, which may be a keyword
abbrev pub is_name : List ℕ → Bool
is_name [] = false
is_name (c ∷ cs) = is_letter c && (nat_lt (length cs) 32 && list_all is_name_byte cs)

-- the two ends of a range, where a text is a number, `..` and a number, and the place of its first point is this
abbrev pub range_at : Option ℕ → List ℕ → Option Ends
range_at None text = None
range_at (Some i) text =
    if starts_with nat_eq (drop i text) (codes "..") && (are_digits 10 10 (take i text) && are_digits 10 10 (drop (i + 2) text))
    then Some (record { from = digits_value 10 (take i text); to = digits_value 10 (drop (i + 2) text) })
    else None

-- the two ends of a range, where a text is a number, `..` and a number
abbrev pub range_of : List ℕ → Option Ends
range_of text = range_at (position (λ c. c == 46) text) text

-- the first and the last address that a text gives: a number of 1 to 10 decimal digits gives one address, and where ranges may stand, two of them with `..` between give those from the one to the other
unfoldable pub ends_of : Bool → List ℕ → Option Ends
ends_of ranged text =
    if are_digits 10 10 text then Some (record { from = digits_value 10 text; to = digits_value 10 text })
    else if ranged then range_of text else None

-- what a line gives: the memory's name, the first and the last of the addresses, both meant, and the value that each of them gets
pub record LineWords : Type 0 where
  pub name : List ℕ
  pub ends : Ends
  pub value : ℕ

-- what a line gives of a name, addresses and a value, if there are such addresses
abbrev pub with_ends : List ℕ → Option Ends → ℕ → Option LineWords
with_ends n None v = None
with_ends n (Some e) v = Some (record { name = n; ends = e; value = v })

-- what a line gives, where its parts between spaces are a name, addresses, and a value of 1 to most_hex lower hexadecimal digits
abbrev pub words_of_parts : Bool → List (List ℕ) → Option LineWords
words_of_parts ranged (n ∷ a ∷ v ∷ []) =
    if is_name n && are_digits 16 most_hex v then with_ends n (ends_of ranged a) (digits_value 16 v) else None
words_of_parts ranged _ = None

-- the parts of a line between its spaces
unfoldable pub fields : List ℕ → List (List ℕ)
fields line = slice_split (λ c. c == 32) line

-- what a line of the form `<mem> <address> <hex>` gives, or, where ranges may stand, one of the form `<mem> <from>..<to> <hex>`
unfoldable pub words_in : Bool → List ℕ → Option LineWords
words_in ranged line = words_of_parts ranged (fields line)

-- an empty line, or a comment: it begins with `//`
abbrev pub says_nothing : List ℕ → Bool
says_nothing [] = true
says_nothing (c ∷ []) = false
says_nothing (c ∷ d ∷ more) = c == 47 && d == 47

-- the memory of a name
abbrev pub mem_of : List MemInfo → List ℕ → Option MemInfo
mem_of mems name = find (λ m. bytes_eq m.name name) mems

-- the value that what a line gives has for a memory's address
abbrev pub value_at : Option LineWords → List ℕ → ℕ → Option ℕ
value_at None name address = None
value_at (Some w) name address =
    if bytes_eq w.name name && (nat_le w.ends.from address && nat_le address w.ends.to) then Some w.value else None

-- the first of two that is there
abbrev pub or_else : Option ℕ → Option ℕ → Option ℕ
or_else (Some v) later = Some v
or_else None later = later

-- the value that lines give a memory's address, if one does
unfoldable pub given_value : Bool → List (List ℕ) → List ℕ → ℕ → Option ℕ
given_value ranged [] name address = None
given_value ranged (line ∷ more) name address = or_else (value_at (words_in ranged line) name address) (given_value ranged more name address)

-- some of n addresses from a place on has a value
abbrev pub is_any_given : (ℕ → Option ℕ) → ℕ → ℕ → Bool
is_any_given value from zero = false
is_any_given value from (suc n) = is_any_given value from n || is_some (value (from + n))

-- how many addresses there are from one to another, both meant
abbrev pub size_of : Ends → ℕ
size_of e = e.to + 1 - e.from

-- the lowest rule that what a line gives a memory breaks, after lines that gave others: I4 asks both ends, I5 the value, I7 that the range doesn't end before it begins, I6 that each word is given once
abbrev pub broken_in : Bool → List (List ℕ) → LineWords → Option MemInfo → Option Rule
broken_in ranged before w None = Some I3
broken_in ranged before w (Some m) =
    if nat_le m.depth w.ends.from || nat_le m.depth w.ends.to then Some I4
    else if nat_le (2 ^ m.width) w.value then Some I5
    else if nat_lt w.ends.to w.ends.from then Some I7
    else if is_any_given (given_value ranged before w.name) w.ends.from (size_of w.ends) then Some I6
    else None

-- the lowest rule that a line breaks which has to give words: I2 asks its form, I3 that there is the memory
abbrev pub broken_by : Bool → List MemInfo → List (List ℕ) → Option LineWords → Option Rule
broken_by ranged mems before None = Some I2
broken_by ranged mems before (Some w) = broken_in ranged before w (mem_of mems w.name)

-- the lowest rule that a line breaks, after the lines before it
unfoldable pub broken_rule : Bool → List MemInfo → List (List ℕ) → List ℕ → Option Rule
broken_rule ranged mems before line = if says_nothing line then None else broken_by ranged mems before (words_in ranged line)

-- the refusal at a line that breaks a rule, else what the lines after it say
abbrev pub at_line : ℕ → Option Rule → Option FileError → Option FileError
at_line number (Some rule) later = Some (Refused rule number)
at_line number None later = later

-- the refusal at the first line that breaks a rule, where the first of the lines has a number
unfoldable pub first_wrong : Bool → List MemInfo → List (List ℕ) → ℕ → List (List ℕ) → Option FileError
first_wrong ranged mems before number [] = None
first_wrong ranged mems before number (line ∷ more) =
    at_line number (broken_rule ranged mems before line) (first_wrong ranged mems (before ++ line ∷ []) (number + 1) more)

-- a memory's words: those that lines give, and 0
abbrev pub words_of : Bool → List (List ℕ) → MemInfo → List ℕ
words_of ranged given_by m = map (λ address. unwrap_or (given_value ranged given_by m.name address) 0) (range_with_len 0 m.depth)

-- whether ranges may stand after a first line: not after `image 1`, but after `image 2`
abbrev pub is_ranged : List ℕ → Option Bool
is_ranged first =
    if bytes_eq first (codes "image 1") then Some false
    else if bytes_eq first (codes "image 2") then Some true
    else None

-- whether ranges may stand in the lines, and the lines after the first one, which is `image 1` or `image 2`
abbrev pub after_header : List (List ℕ) → Option (Bool × List (List ℕ))
after_header [] = None
after_header (first ∷ rest) = option_map (λ ranged. (ranged, rest)) (is_ranged first)

-- what the lines after the first one give, unless one breaks a rule
abbrev pub contents : Bool → List MemInfo → List (List ℕ) → Option FileError → Result (List (List ℕ)) FileError
contents ranged mems rest None = Ok (map (words_of ranged rest) mems)
contents ranged mems rest (Some refusal) = Err refusal

-- what the lines after the first one give, unless one breaks a rule; I1 asks that there is the first line
abbrev pub image_after : List MemInfo → Option (Bool × List (List ℕ)) → Result (List (List ℕ)) FileError
image_after mems None = Err (Refused I1 1)
image_after mems (Some h) = contents h.0 mems h.1 (first_wrong h.0 mems [] 2 h.1)

-- the words of each memory that a file gives, or its refusal: the lowest wrong line, there the lowest rule
unfoldable pub image : List MemInfo → List ℕ → Result (List (List ℕ)) FileError
image mems text = image_after mems (after_header (lines text))

-- an error is the refusal that is meant, unless memory ran out
abbrev pub IsRefusal : {T : Type 0} → Result T FileError → FileError → Type 0
IsRefusal meant (Refused rule line) = meant ≡ Err (Refused rule line)
IsRefusal meant NoMemory = Unit {0}

-- an image for memories: for each of them, in order, as many words as its depth, each of its width
pub record IsImage (mems : List MemInfo) (words : List (List ℕ)) : Type 0 where
  pub count : length words ≡ length mems
  pub depth : (m : ℕ) (d : MemInfo) → m < length mems → length (slice_index_or words m []) ≡ (slice_index_or mems m d).depth
  pub width : (m : ℕ) (d : MemInfo) → m < length mems → (a : ℕ) → slice_index (slice_index_or words m []) a < 2 ^ (slice_index_or mems m d).width
