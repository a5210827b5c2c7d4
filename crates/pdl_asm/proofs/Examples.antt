-- Texts, right and wrong, as the definitions assemble them.
use Rattle.std.proofs.Common.{◌≡◌, List, ℕ, [], ◌∷◌, Some, None, Option, codes, length, option_map, ◌+◌, refl, pos}
use Rattle.pdl_image.specs.Lines.{lines}
use Rattle.pdl_kit.specs.declared.rule.Rule.TheVariants.{A1, A2, A3, A4, A5, A6, A7, A8}
use Rattle.pdl_asm_table.specs.declared.table.ArgumentKind.TheVariants.{Reg, Uint, Sint, Rel}
use Rattle.pdl_asm_table.specs.Tables.{TableValue}
use Rattle.pdl_asm.specs.declared.line.Operand.TheVariants.{Label, Number}
use Rattle.pdl_asm.specs.declared.line.Operands.{Operands}
use Rattle.pdl_asm.specs.declared.line.Operands.TheVariants.{Few, TooMany}
use Rattle.pdl_asm.specs.declared.line.Operation.TheVariants.{Nothing, Insn}
use Rattle.pdl_asm.specs.declared.asm_error.AsmError.{AsmError}
use Rattle.pdl_asm.specs.declared.asm_error.AsmError.TheVariants.{Refused}
use Rattle.pdl_asm.specs.Lines.{line_of, operands_given}
use Rattle.pdl_asm.specs.Assembly.{Placed, first_wrong, labels_of, lines_from, written_word}

-- words of 8 bits with the registers r0 and r1, `add` of a register and a number, `b` to a place, and `ld` of a number from 0 on
abbrev small : TableValue
small = record {
  word = 8;
  mem = codes "im";
  regs = (codes "r0", 0) ∷ (codes "r1", 1) ∷ [];
  insns = (codes "add", record { args = record { letter = 100; kind = Reg } ∷ record { letter = 105; kind = Sint } ∷ []; bits = codes "01diiiii" })
      ∷ (codes "b", record { args = record { letter = 116; kind = Rel } ∷ []; bits = codes "100ttttt" })
      ∷ (codes "ld", record { args = record { letter = 120; kind = Uint } ∷ []; bits = codes "x111x00x" }) ∷ [];
}

abbrev lines_at : List ℕ → List Placed
lines_at text = lines_from small (pos 0) (lines text)

-- the refusal of a text, and the word that it writes at an address
abbrev wrong : List ℕ → Option AsmError
wrong text = first_wrong small (labels_of (lines_at text)) [] 1 (lines_at text)

abbrev word : List ℕ → ℕ → Option ℕ
word text address = written_word small (labels_of (lines_at text)) (lines_at text) address

-- ---- right texts

two_words : (wrong (codes "top: add r1, -2\nb top\n") ≡ None) × (word (codes "top: add r1, -2\nb top\n") 0 ≡ Some 126)
    × (word (codes "top: add r1, -2\nb top\n") 1 ≡ Some 159) × (word (codes "top: add r1, -2\nb top\n") 2 ≡ None)
unfolding lines line_of
two_words = (refl, refl, refl, refl)

-- the places of a letter need not be neighbours, and stand most significant first
spread : word (codes "ld 4") 0 ≡ Some (128 + 112)
unfolding lines line_of
spread = refl

-- blanks and comments
blanks : (wrong (codes "\t x :add r0,1//y:\n\n  \n .word\t-0x1 // z") ≡ None)
    × (word (codes "\t x :add r0,1//y:\n\n  \n .word\t-0x1 // z") 1 ≡ Some 255)
unfolding lines line_of
blanks = (refl, refl)

-- a number for `rel` is taken less the place too
rel_number : word (codes ".at 5\nb 4\n") 5 ≡ Some 159
unfolding lines line_of
rel_number = refl

-- of a label that is defined twice the first definition holds
first_label : word (codes "x: .word 1\nb x\nx: .word 1") 1 ≡ Some 159
unfolding lines line_of
first_label = refl

-- ---- wrong texts

a4 : wrong (codes "add r2, 0") ≡ Some (Refused A4 1)
unfolding lines line_of
a4 = refl

a5 : wrong (codes "add r1, 16") ≡ Some (Refused A5 1)
unfolding lines line_of
a5 = refl

a3 : wrong (codes "add r1") ≡ Some (Refused A3 1)
unfolding lines line_of
a3 = refl

a7 : wrong (codes ".at 65535\n.word 1\n.word 2") ≡ Some (Refused A7 3)
unfolding lines line_of
a7 = refl

a8 : wrong (codes ".word 1\n.at 0\n.word 1") ≡ Some (Refused A8 3)
unfolding lines line_of
a8 = refl

a6 : wrong (codes "x: .word 1\nx: .word 2") ≡ Some (Refused A6 2)
unfolding lines line_of
a6 = refl

a2 : wrong (codes "nop") ≡ Some (Refused A2 1)
unfolding lines line_of
a2 = refl

a1 : wrong (codes "add r1 r2") ≡ Some (Refused A1 1)
unfolding lines line_of
a1 = refl

label_nowhere : wrong (codes "b x") ≡ Some (Refused A6 1)
unfolding lines line_of
label_nowhere = refl

-- a line that breaks A2 defines its label, one that breaks A1 doesn't
label_of_a2 : wrong (codes "b x\nx: nop") ≡ Some (Refused A2 2)
unfolding lines line_of
label_of_a2 = refl

label_of_a1 : wrong (codes "b x\nx: .nop") ≡ Some (Refused A6 1)
unfolding lines line_of
label_of_a1 = refl

-- `.at` sets the place even where it breaks A7: x is at 65537, so the first line's value is outside its field
at_sets : wrong (codes "ld x\n.at 65536\n.word 0\nx:") ≡ Some (Refused A5 1)
unfolding lines line_of
at_sets = refl

-- a line that breaks A3 adds to the place: x is at 2
a3_adds : word (codes "ld x\nadd r1\nx:") 0 ≡ word (codes "ld 2") 0
unfolding lines line_of
a3_adds = refl

-- one that breaks A2 doesn't: x is at 1
a2_adds_nothing : word (codes "ld x\nnop\nx:") 0 ≡ word (codes "ld 1") 0
unfolding lines line_of
a2_adds_nothing = refl

-- a name for `sint` is A5, a number for `reg` A4, a register's name for `rel` a label
name_for_sint : wrong (codes "x: add r1, x") ≡ Some (Refused A5 1)
unfolding lines line_of
name_for_sint = refl

number_for_reg : wrong (codes "add 1, 1") ≡ Some (Refused A4 1)
unfolding lines line_of
number_for_reg = refl

reg_for_rel : wrong (codes "b r1") ≡ Some (Refused A6 1)
unfolding lines line_of
reg_for_rel = refl

-- the lowest rule of a line: of operands too
lowest_rule : wrong (codes "add 99, 99") ≡ Some (Refused A4 1)
unfolding lines line_of
lowest_rule = refl

a5_before_a6 : wrong (codes "x: .word 0\nx: .word 256") ≡ Some (Refused A5 2)
unfolding lines line_of
a5_before_a6 = refl

-- ---- forms of lines

at_name : line_of (codes ".at x") ≡ None
unfolding line_of
at_name = refl

word_name : line_of (codes ".word x") ≡ None
unfolding line_of
word_name = refl

two_numbers : line_of (codes ".word 1, 2") ≡ None
unfolding line_of
two_numbers = refl

no_blank : line_of (codes ".at5") ≡ None
unfolding line_of
no_blank = refl

carriage_return : line_of (codes "nop\r") ≡ None
unfolding line_of
carriage_return = refl

carriage_return_in_comment : line_of (codes "nop //\r") ≡ Some (record { label = None; operation = Insn (codes "nop") (Few []) })
unfolding line_of
carriage_return_in_comment = refl

minus_alone : line_of (codes ".word - 1") ≡ None
unfolding line_of
minus_alone = refl

two_labels : line_of (codes "x: y: nop") ≡ None
unfolding line_of
two_labels = refl

comma_first : line_of (codes "add , r1") ≡ None
unfolding line_of
comma_first = refl

comma_last : line_of (codes "add r1,") ≡ None
unfolding line_of
comma_last = refl

keyword_label : line_of (codes "lock:") ≡ Some (record { label = Some (codes "lock"); operation = Nothing })
unfolding line_of
keyword_label = refl

-- how many operands there are, where they are not too many
abbrev operand_count : Operands → ℕ
operand_count (Few os) = length os
operand_count TooMany = 0

-- 64 operands are kept, of 65 only that they are too many
most_operands : option_map operand_count
    (operands_given (codes "1,1,1,1,1,1,1,1,1,1,1,1,1,1,1,1,1,1,1,1,1,1,1,1,1,1,1,1,1,1,1,1,1,1,1,1,1,1,1,1,1,1,1,1,1,1,1,1,1,1,1,1,1,1,1,1,1,1,1,1,1,1,1,1"))
    ≡ Some 64
most_operands = refl

too_many_operands : operands_given
    (codes "1,1,1,1,1,1,1,1,1,1,1,1,1,1,1,1,1,1,1,1,1,1,1,1,1,1,1,1,1,1,1,1,1,1,1,1,1,1,1,1,1,1,1,1,1,1,1,1,1,1,1,1,1,1,1,1,1,1,1,1,1,1,1,1,1")
    ≡ Some TooMany
too_many_operands = refl

operands : line_of (codes "a:add r1 ,0x1f")
    ≡ Some (record { label = Some (codes "a"); operation = Insn (codes "add") (Few (Label (codes "r1") ∷ Number (pos 31) ∷ [])) })
unfolding line_of
operands = refl
