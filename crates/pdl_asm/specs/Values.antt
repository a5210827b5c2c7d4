-- The values of operands, and the words of instructions.
use Rattle.std.specs.Prelude.{ℕ, ℤ, pos, negsuc, ◌-ℤ◌, ◌+◌, ◌-◌, ◌*◌, ◌/◌, ◌%◌, ◌^◌, ◌==◌, nat_lt, nat_le, List, [], ◌∷◌, length, count_by, Option, Some, None, Result, Ok, Err, if◌then◌else◌}
use Rattle.pdl_kit.specs.declared.rule.Rule.{Rule}
use Rattle.pdl_kit.specs.declared.rule.Rule.TheVariants.{A2, A3, A4, A5, A6, A7, A8}
use Rattle.pdl_asm_table.specs.Dictionaries.{value_of}
use Rattle.pdl_asm_table.specs.declared.table.ArgumentKind.{ArgumentKind}
use Rattle.pdl_asm_table.specs.declared.table.ArgumentKind.TheVariants.{Reg, Uint, Sint, Rel}
use Rattle.pdl_asm_table.specs.declared.table.Arg.{Arg}
use Rattle.pdl_asm_table.specs.Tables.{TableValue}
use Rattle.pdl_asm.specs.declared.line.Operand.{Operand}
use Rattle.pdl_asm.specs.declared.line.Operand.TheVariants.{Label, Number}
use Rattle.pdl_asm.specs.declared.line.Operands.{Operands}
use Rattle.pdl_asm.specs.declared.line.Operands.TheVariants.{Few, TooMany}

-- places by label
abbrev pub Labels : Type 0
Labels = List (List ℕ × ℤ)

-- ---- numbers in fields

-- a number in a field of f bits: 0 to 2^f - 1
abbrev pub unsigned_field : ℕ → ℤ → Option ℕ
unsigned_field f (pos n) = if nat_lt n (2 ^ f) then Some n else None
unsigned_field f (negsuc n) = None

-- a number in two's complement in a field of f bits: -2^(f-1) to 2^(f-1) - 1
abbrev pub signed_field : ℕ → ℤ → Option ℕ
signed_field f (pos n) = if nat_lt n (2 ^ (f - 1)) then Some n else None
signed_field f (negsuc n) = if nat_lt n (2 ^ (f - 1)) then Some (2 ^ f - 1 - n) else None

-- a number in a word of so many bits: -2^(bits-1) to 2^bits - 1
abbrev pub in_word : ℕ → ℤ → Option ℕ
in_word bits (pos n) = unsigned_field bits (pos n)
in_word bits (negsuc n) = signed_field bits (negsuc n)

-- A5: a value that is outside its field
abbrev pub or_a5 : Option ℕ → Result ℕ Rule
or_a5 None = Err A5
or_a5 (Some v) = Ok v

-- ---- operands

-- a number, or the place of a label
abbrev pub amount : Labels → Operand → Option ℤ
amount labels (Label name) = value_of labels name
amount labels (Number n) = Some n

-- A4: a register's number in a field of f bits
abbrev pub reg_value : ℕ → Option ℕ → Result ℕ Rule
reg_value f None = Err A4
reg_value f (Some r) = or_a5 (unsigned_field f (pos r))

-- A6: a label that is defined nowhere
abbrev pub amount_value : (ℤ → Option ℕ) → Option ℤ → Result ℕ Rule
amount_value field None = Err A6
amount_value field (Some n) = or_a5 (field n)

-- the value of an operand in a field of f bits of the word at a place, or the rule that it breaks
abbrev pub operand_value : TableValue → Labels → ℤ → ℕ → ArgumentKind → Operand → Result ℕ Rule
operand_value t labels place f Reg (Label name) = reg_value f (value_of t.regs name)
operand_value t labels place f Reg (Number n) = Err A4
operand_value t labels place f Uint o = amount_value (unsigned_field f) (amount labels o)
operand_value t labels place f Sint (Label name) = Err A5
operand_value t labels place f Sint (Number n) = or_a5 (signed_field f n)
operand_value t labels place f Rel o = amount_value (λ n. signed_field f (n -ℤ place)) (amount labels o)

-- how many bits the field of a letter has
abbrev pub field_bits : List ℕ → ℕ → ℕ
field_bits bits letter = count_by (λ c. c == letter) bits

-- the value of an argument's operand
abbrev pub argument_value : TableValue → Labels → ℤ → List ℕ → Arg → Operand → Result ℕ Rule
argument_value t labels place bits a o = operand_value t labels place (field_bits bits a.letter) a.kind o

-- ---- the lowest rule

-- the number of a rule, by which the lowest is found
abbrev pub rank : Option Rule → ℕ
rank (Some A2) = 2
rank (Some A3) = 3
rank (Some A4) = 4
rank (Some A5) = 5
rank (Some A6) = 6
rank (Some A7) = 7
rank (Some A8) = 8
rank _ = 9

-- the lower of two rules that may be broken
abbrev pub lower : Option Rule → Option Rule → Option Rule
lower a b = if nat_le (rank a) (rank b) then a else b

-- the rule that stands in place of a value
abbrev pub rule_of : Result ℕ Rule → Option Rule
rule_of (Ok v) = None
rule_of (Err rule) = Some rule

-- the lowest rule that operands break; A3 asks as many as arguments
abbrev pub operands_rule : TableValue → Labels → ℤ → List ℕ → List Arg → List Operand → Option Rule
operands_rule t labels place bits [] [] = None
operands_rule t labels place bits (a ∷ rest) (o ∷ os) = lower (rule_of (argument_value t labels place bits a o)) (operands_rule t labels place bits rest os)
operands_rule t labels place bits _ _ = Some A3

-- the lowest rule that an instruction's operands break
abbrev pub given_rule : TableValue → Labels → ℤ → List ℕ → List Arg → Operands → Option Rule
given_rule t labels place bits args (Few os) = operands_rule t labels place bits args os
given_rule t labels place bits args TooMany = Some A3

-- ---- words

-- the value, 0 where there is none
abbrev pub or_zero : Result ℕ Rule → ℕ
or_zero (Ok v) = v
or_zero (Err rule) = 0

-- the value of a letter: that of its argument's operand
abbrev pub letter_value : TableValue → Labels → ℤ → List ℕ → List Arg → List Operand → ℕ → ℕ
letter_value t labels place bits (a ∷ rest) (o ∷ os) c =
    if a.letter == c then or_zero (argument_value t labels place bits a o) else letter_value t labels place bits rest os c
letter_value t labels place bits _ _ c = 0

-- the value of a letter among an instruction's operands
abbrev pub given_value : TableValue → Labels → ℤ → List ℕ → List Arg → Operands → ℕ → ℕ
given_value t labels place bits args (Few os) c = letter_value t labels place bits args os c
given_value t labels place bits args TooMany c = 0

-- the bit of a place: `0`, `1`, or of a letter's value the bit whose number is how many of the letter's places stand to the right
abbrev pub bit_of : (ℕ → ℕ) → ℕ → List ℕ → ℕ
bit_of value c right = if c == 48 then 0 else if c == 49 then 1 else (value c / 2 ^ field_bits right c) % 2

-- the word of bits, the sum of bit times 2^position
abbrev pub word_of_bits : (ℕ → ℕ) → List ℕ → ℕ
word_of_bits value [] = 0
word_of_bits value (c ∷ right) = bit_of value c right * 2 ^ length right + word_of_bits value right
