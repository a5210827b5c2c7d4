-- One line more, for labels and places.
use Rattle.std.proofs.Common.{◌≡◌, ℕ, ◌≤◌, refl, sym, ◌∙◌, ap, arith, List, ◌∷◌, Option, fold, ℤ}
use Rattle.std.proofs.lemmas.Int.{ints}
use Rattle.pdl_asm_table.specs.Tables.{TableValue}
use Rattle.pdl_asm.specs.declared.line.AssemblyLine.{AssemblyLine}
use Rattle.pdl_asm.specs.Lines.{line_of}
use Rattle.pdl_asm.specs.Values.{Labels}
use Rattle.pdl_asm.specs.Assembly.{Placed, after_line, label_of, lines_from, with_label, with_line}
use Rattle.pdl_asm.specs.Places.{IsNear}

-- lines to come, where the first of them is read
pub placed_first : (t : TableValue) (place after : ℤ) (text : List ℕ) (rest all : List (List ℕ)) (line : Option AssemblyLine)
    → all ≡ text ∷ rest → line ≡ line_of text → after ≡ after_line t place line
    → lines_from t place all ≡ record { place = place; line = line } ∷ lines_from t after rest
placed_first t place after text rest all line e f g = rw (e, g, f) refl

-- a place that some lines can come to is one that more lines can come to
pub near_later : (n m : ℕ) (place : ℤ) → IsNear n place → n ≤ m → IsNear m place
near_later n m place h l = (h.0, omega (arith, ints, h.1, l))

-- the labels of some lines are those with the label of the first line, and then of the lines after it
pub labels_more : (labels more : Labels) (place : ℤ) (line : Option AssemblyLine) (ps rest : List Placed) (whole : Labels)
    → rest ≡ record { place = place; line = line } ∷ ps → more ≡ with_label labels place (label_of line)
    → fold with_line labels rest ≡ whole → fold with_line more ps ≡ whole
labels_more labels more place line ps rest whole e f g = ap (λ ls. fold with_line ls ps) f ∙ sym (ap (fold with_line labels) e) ∙ g
