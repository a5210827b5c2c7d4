-- What a line of an assembly text says by itself: `[label:] [operation]`, and a comment.
use Rattle.std.specs.Prelude.{ℕ, ℤ, pos, neg_ℤ, ◌+◌, ◌==◌, Bool, false, ◌&&◌, ◌||◌, List, [], ◌∷◌, take, drop, length, nat_le, position, Option, Some, None, option_map, bytes_eq, codes, if◌then◌else◌}
use Rattle.std.specs.List.{slice_split}
use Rattle.std.specs.Str.Parse.{digits_value}
use Rattle.pdl_image.specs.Images.{is_name}
use Rattle.pdl_asm.specs.declared.line.Operand.{Operand}
use Rattle.pdl_asm.specs.declared.line.Operand.TheVariants.{Label, Number}
use Rattle.pdl_asm.specs.declared.line.Operands.{Operands}
use Rattle.pdl_asm.specs.declared.line.Operands.TheVariants.{Few, TooMany}
use Rattle.pdl_asm.specs.declared.line.Operation.{Operation}
use Rattle.pdl_asm.specs.declared.line.Operation.TheVariants.{Nothing, At, Word, Insn}
use Rattle.pdl_asm.specs.declared.line.AssemblyLine.{AssemblyLine}
use Rattle.pdl_word.specs.Digits.{are_digits, most_hex, most_decimal}

-- a space or a tab
abbrev pub is_blank : ℕ → Bool
is_blank c = c == 32 || c == 9

-- a text without the blanks at its start
abbrev pub trim_start : List ℕ → List ℕ
trim_start [] = []
trim_start (c ∷ cs) = if is_blank c then trim_start cs else c ∷ cs

-- a byte before a text that has no blanks at its end
abbrev pub onto_trimmed : ℕ → List ℕ → List ℕ
onto_trimmed c [] = if is_blank c then [] else c ∷ []
onto_trimmed c (d ∷ ds) = c ∷ d ∷ ds

-- a text without the blanks at its end
abbrev pub trim_end : List ℕ → List ℕ
trim_end [] = []
trim_end (c ∷ cs) = onto_trimmed c (trim_end cs)

-- a text without the blanks round it
abbrev pub without_blanks : List ℕ → List ℕ
without_blanks text = trim_end (trim_start text)

-- a comment begins here
abbrev pub is_comment : List ℕ → Bool
is_comment (c ∷ d ∷ more) = c == 47 && d == 47
is_comment _ = false

-- what stands before the first `//`
abbrev pub without_comment : List ℕ → List ℕ
without_comment [] = []
without_comment (c ∷ cs) = if is_comment (c ∷ cs) then [] else c ∷ without_comment cs

-- ---- numbers and operands

-- 1 to most_decimal decimal digits
abbrev pub decimal_of : List ℕ → Option ℕ
decimal_of ds = if are_digits 10 most_decimal ds then Some (digits_value 10 ds) else None

-- 1 to most_hex lower hexadecimal digits
abbrev pub hexadecimal_of : List ℕ → Option ℕ
hexadecimal_of ds = if are_digits 16 most_hex ds then Some (digits_value 16 ds) else None

-- `0x` and hexadecimal digits, or decimal digits
abbrev pub magnitude_of : List ℕ → Option ℕ
magnitude_of (c ∷ d ∷ ds) = if c == 48 && d == 120 then hexadecimal_of ds else decimal_of (c ∷ d ∷ ds)
magnitude_of ds = decimal_of ds

-- a number: a magnitude, with `-` before it or not
abbrev pub number_of : List ℕ → Option ℤ
number_of [] = None
number_of (c ∷ cs) = if c == 45 then option_map (λ n. neg_ℤ (pos n)) (magnitude_of cs) else option_map pos (magnitude_of (c ∷ cs))

-- an operand: a name or a number
abbrev pub operand_of : List ℕ → Option Operand
operand_of text = if is_name text then Some (Label text) else option_map Number (number_of text)

-- an operand before those after it, if each is there
abbrev pub with_operand : Option Operand → Option (List Operand) → Option (List Operand)
with_operand (Some o) (Some later) = Some (o ∷ later)
with_operand _ _ = None

-- operands of texts
abbrev pub operands_in : List (List ℕ) → Option (List Operand)
operands_in [] = Some []
operands_in (part ∷ parts) = with_operand (operand_of (without_blanks part)) (operands_in parts)

-- the parts of what stands after a comma, if there is one
abbrev pub parts_after : Option (List ℕ) → List (List ℕ)
parts_after None = []
parts_after (Some text) = slice_split (λ d. d == 44) text

-- the operands that commas separate, none of an empty text
abbrev pub operands_of : List ℕ → Option (List Operand)
operands_of [] = Some []
operands_of (c ∷ cs) = operands_in (slice_split (λ d. d == 44) (c ∷ cs))

-- operands, unless they are more than 64, which no instruction has: each argument has a letter of its own
abbrev pub counted : List Operand → Operands
counted operands = if nat_le (length operands) 64 then Few operands else TooMany

-- the operands of an instruction that a text gives
abbrev pub operands_given : List ℕ → Option Operands
operands_given text = option_map counted (operands_of text)

-- ---- operations and lines

-- an operation of its first word and the text after it
abbrev pub operation_with : List ℕ → List ℕ → Option Operation
operation_with word after =
    if bytes_eq word (codes ".at") then option_map At (number_of after)
    else if bytes_eq word (codes ".word") then option_map Word (number_of after)
    else if is_name word then option_map (Insn word) (operands_given after)
    else None

-- the operation of a text whose first word ends at the place of a blank, if there is one
abbrev pub operation_at : List ℕ → Option ℕ → Option Operation
operation_at text None = operation_with text []
operation_at text (Some i) = operation_with (take i text) (trim_start (drop i text))

-- the operation that a text without blanks round it is
abbrev pub operation_of : List ℕ → Option Operation
operation_of [] = Some Nothing
operation_of (c ∷ cs) = operation_at (c ∷ cs) (position is_blank (c ∷ cs))

-- a line of a label and an operation
abbrev pub line_with : Option (List ℕ) → Option Operation → Option AssemblyLine
line_with label None = None
line_with label (Some operation) = Some (record { label = label; operation = operation })

-- the line of a text with a colon at a place: a label stands before it
abbrev pub labelled_line : List ℕ → Option ℕ → Option AssemblyLine
labelled_line text None = line_with None (operation_of (without_blanks text))
labelled_line text (Some i) =
    if is_name (without_blanks (take i text))
    then line_with (Some (without_blanks (take i text))) (operation_of (without_blanks (drop (i + 1) text)))
    else None

-- the line of a text without comment: a label stands before its first colon
abbrev pub line_of_text : List ℕ → Option AssemblyLine
line_of_text text = labelled_line text (position (λ c. c == 58) text)

-- A1: the line that a text is, if it has a line's form
unfoldable pub line_of : List ℕ → Option AssemblyLine
line_of text = line_of_text (without_comment text)
