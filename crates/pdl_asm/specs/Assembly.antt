-- The image that an assembly text is with a table, or its refusal.
use Rattle.std.specs.Prelude.{◌≡◌, ℕ, ℤ, pos, negsuc, ◌+ℤ◌, ◌+◌, ◌==◌, nat_lt, Bool, true, false, ◌&&◌, List, [], ◌∷◌, ◌++◌, fold, flat_map, Option, Some, None, is_some, Result, Ok, Err, codes, decimal, if◌then◌else◌}
use Rattle.std.specs.List.{range_with_len}
use Rattle.pdl_kit.specs.declared.rule.Rule.{Rule}
use Rattle.pdl_kit.specs.declared.rule.Rule.TheVariants.{A1, A2, A5, A6, A7, A8}
use Rattle.pdl_semantics.specs.Lines.{hex_digits}
use Rattle.pdl_image.specs.Images.{or_else}
use Rattle.pdl_image.specs.Lines.{lines}
use Rattle.pdl_asm_table.specs.Dictionaries.{value_of, with_definition}
use Rattle.pdl_asm_table.specs.declared.table.Insn.{Insn as TableInsn}
use Rattle.pdl_asm_table.specs.Tables.{TableValue}
use Rattle.pdl_asm.specs.Lines.{line_of}
use Rattle.pdl_asm.specs.Values.{Labels, given_rule, given_value, in_word, lower, word_of_bits}
use Rattle.pdl_asm.specs.declared.line.Operands.{Operands}
use Rattle.pdl_asm.specs.declared.line.Operation.{Operation}
use Rattle.pdl_asm.specs.declared.line.Operation.TheVariants.{Nothing, At, Word, Insn}
use Rattle.pdl_asm.specs.declared.line.AssemblyLine.{AssemblyLine}
use Rattle.pdl_asm.specs.declared.asm_error.AsmError.{AsmError}
use Rattle.pdl_asm.specs.declared.asm_error.AsmError.TheVariants.{Refused, NoMemory}
use Rattle.pdl_word.specs.Digits.{hex}

-- ---- places

-- the place after an operation: `.at` sets it, and a word, of an instruction that the table has, adds 1
abbrev pub after_operation : TableValue → ℤ → Operation → ℤ
after_operation t place Nothing = place
after_operation t place (At n) = n
after_operation t place (Word n) = place +ℤ pos 1
after_operation t place (Insn name operands) = if is_some (value_of t.insns name) then place +ℤ pos 1 else place

-- the place after a line: one that lacks a line's form leaves it as it is
abbrev pub after_line : TableValue → ℤ → Option AssemblyLine → ℤ
after_line t place None = place
after_line t place (Some l) = after_operation t place l.operation

-- a line, if it has a line's form, and the place before its operation
pub record Placed : Type 0 where
  pub place : ℤ
  pub line : Option AssemblyLine

-- the lines of texts from a place on
abbrev pub lines_from : TableValue → ℤ → List (List ℕ) → List Placed
lines_from t place [] = []
lines_from t place (text ∷ texts) = record { place = place; line = line_of text } ∷ lines_from t (after_line t place (line_of text)) texts

-- ---- labels

-- the labels with that of a line
abbrev pub with_label : Labels → ℤ → Option (List ℕ) → Labels
with_label labels place None = labels
with_label labels place (Some name) = with_definition labels name place

-- the label of a line
abbrev pub label_of : Option AssemblyLine → Option (List ℕ)
label_of None = None
label_of (Some l) = l.label

-- how many labels are defined, with a line, of one that breaks no rule
abbrev pub defined_by : ℕ → Option AssemblyLine → ℕ
defined_by before line = if is_some (label_of line) then before + 1 else before

-- the labels with that of a line that has a place
abbrev pub with_line : Labels → Placed → Labels
with_line labels p = with_label labels p.place (label_of p.line)

-- the places of labels that lines define, of a label that is defined twice the first
abbrev pub labels_of : List Placed → Labels
labels_of ps = fold with_line [] ps

-- ---- words

-- the word of an instruction at a place
abbrev pub insn_word : TableValue → Labels → ℤ → Option TableInsn → Operands → Option ℕ
insn_word t labels place None operands = None
insn_word t labels place (Some i) operands = Some (word_of_bits (given_value t labels place i.bits i.args operands) i.bits)

-- the word that an operation gives at a place
abbrev pub operation_word : TableValue → Labels → ℤ → Operation → Option ℕ
operation_word t labels place Nothing = None
operation_word t labels place (At n) = None
operation_word t labels place (Word n) = in_word t.word n
operation_word t labels place (Insn name operands) = insn_word t labels place (value_of t.insns name) operands

-- the word that a line gives at a place
abbrev pub line_word : TableValue → Labels → ℤ → Option AssemblyLine → Option ℕ
line_word t labels place None = None
line_word t labels place (Some l) = operation_word t labels place l.operation

-- a place is this address
abbrev pub is_at : ℤ → ℕ → Bool
is_at (pos n) address = n == address
is_at (negsuc n) address = false

-- the word that a line writes at an address, if it does
abbrev pub word_at : TableValue → Labels → ℕ → Placed → Option ℕ
word_at t labels address p = if is_at p.place address then line_word t labels p.place p.line else None

-- the word that lines write at an address, if one does
abbrev pub written_word : TableValue → Labels → List Placed → ℕ → Option ℕ
written_word t labels [] address = None
written_word t labels (p ∷ ps) address = or_else (word_at t labels address p) (written_word t labels ps address)

-- ---- rules

-- a place is an address from 0 to 65,535
abbrev pub is_address : ℤ → Bool
is_address (pos n) = nat_lt n 65536
is_address (negsuc n) = false

-- A7 and A8: a word's place is an address, at which no line before it wrote a word
abbrev pub free_rule : Bool → Bool → Option Rule
free_rule false taken = Some A7
free_rule true true = Some A8
free_rule true false = None

-- A7 and A8 of a word at a place, by whether a word was written there before
abbrev pub place_rule : Bool → ℤ → Option Rule
place_rule taken place = free_rule (is_address place) taken

-- the lowest rule that an instruction breaks, by what the table has of its name; `taken` says whether a word was written at its place before
abbrev pub insn_rule : TableValue → Labels → Bool → ℤ → Option TableInsn → Operands → Option Rule
insn_rule t labels taken place None operands = Some A2
insn_rule t labels taken place (Some i) operands = lower (given_rule t labels place i.bits i.args operands) (place_rule taken place)

-- the lowest rule that an operation breaks
abbrev pub operation_rule : TableValue → Labels → Bool → ℤ → Operation → Option Rule
operation_rule t labels taken place Nothing = None
operation_rule t labels taken place (At n) = if is_address n then None else Some A7
operation_rule t labels taken place (Word n) = lower (if is_some (in_word t.word n) then None else Some A5) (place_rule taken place)
operation_rule t labels taken place (Insn name operands) = insn_rule t labels taken place (value_of t.insns name) operands

-- A6: a label that a line before it defined
abbrev pub label_rule : Labels → Option (List ℕ) → Option Rule
label_rule before None = None
label_rule before (Some name) = if is_some (value_of before name) then Some A6 else None

-- the lowest rule that a line breaks, by all labels and by those that lines before it defined
abbrev pub line_rule : TableValue → Labels → Labels → Bool → ℤ → Option AssemblyLine → Option Rule
line_rule t labels before taken place None = Some A1
line_rule t labels before taken place (Some l) = lower (operation_rule t labels taken place l.operation) (label_rule before l.label)

-- a place is an address at which lines wrote a word
abbrev pub is_taken : TableValue → Labels → List Placed → ℤ → Bool
is_taken t labels before (pos n) = nat_lt n 65536 && is_some (written_word t labels before n)
is_taken t labels before (negsuc n) = false

-- the lowest rule that a line breaks after lines before it
abbrev pub broken_rule : TableValue → Labels → List Placed → Placed → Option Rule
broken_rule t labels before p = line_rule t labels (labels_of before) (is_taken t labels before p.place) p.place p.line

-- the refusal at a line that breaks a rule, else what comes of the lines after it
abbrev pub at_line : ℕ → Option Rule → Option AsmError → Option AsmError
at_line number (Some rule) later = Some (Refused rule number)
at_line number None later = later

-- the refusal of the first line that breaks a rule, where the first of the lines has a number
abbrev pub first_wrong : TableValue → Labels → List Placed → ℕ → List Placed → Option AsmError
first_wrong t labels before number [] = None
first_wrong t labels before number (p ∷ ps) =
    at_line number (broken_rule t labels before p) (first_wrong t labels (before ++ p ∷ []) (number + 1) ps)

-- ---- the image

-- how many addresses there are
unfoldable pub addresses : ℕ
addresses = 65536

-- the line `<mem> <address> <hex>` of a word of so many bits, if one is written
abbrev pub word_line : List ℕ → ℕ → ℕ → Option ℕ → List ℕ
word_line mem bits address None = []
word_line mem bits address (Some v) = mem ++ codes " " ++ decimal address ++ codes " " ++ hex (hex_digits bits) v ++ codes "\n"

-- the image of the words that are written, by ascending address
abbrev pub image_text : TableValue → (ℕ → Option ℕ) → List ℕ
image_text t word = codes "image 1\n" ++ flat_map (λ address. word_line t.mem t.word address (word address)) (range_with_len 0 addresses)

-- the image, unless a line is wrong
abbrev pub image_unless : Option AsmError → List ℕ → Result (List ℕ) AsmError
image_unless None text = Ok text
image_unless (Some refusal) text = Err refusal

-- the image of lines with places, of which all labels are known
abbrev pub image_of_lines : TableValue → List Placed → Result (List ℕ) AsmError
image_of_lines t ps = image_unless (first_wrong t (labels_of ps) [] 1 ps) (image_text t (written_word t (labels_of ps) ps))

-- the image that a text is with a table, or its refusal: the lowest wrong line, counted from 1, there the lowest rule
unfoldable pub image : TableValue → List ℕ → Result (List ℕ) AsmError
image t text = image_of_lines t (lines_from t (pos 0) (lines text))

-- an answer is what is meant, or memory ran out
abbrev pub Meets : {T : Type 0} → (T → List ℕ) → Result (List ℕ) AsmError → Result T AsmError → Type 0
Meets bytes meant (Ok x) = meant ≡ Ok (bytes x)
Meets bytes meant (Err NoMemory) = Unit {0}
Meets bytes meant (Err (Refused rule line)) = meant ≡ Err (Refused rule line)
