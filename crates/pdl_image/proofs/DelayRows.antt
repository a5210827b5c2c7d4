-- Rows of a delay file taken one after another, and a row read from its last character to its first.
use Rattle.std.proofs.Common.{◌≡◌, ℕ, suc, ◌+◌, ◌*◌, ◌^◌, ◌<◌, ◌≤◌, ◌==◌, zero, refl, sym, ◌∙◌, ap, arith, Bool, true, false, if◌then◌else◌, List, [], ◌∷◌, ◌++◌, length, map, drop, get_or, Some, None, append_assoc, append-nil}
use Rattle.std.proofs.lemmas.List.{drop_more, length-drop}
use Rattle.std.proofs.Math.Seq.{drop-length}
use Rattle.std.proofs.Math.Nat.{two-pow-succ}
use Rattle.std.proofs.lemmas.Nat.{pow_pos}
use Rattle.pdl_kit.specs.declared.rule.Rule.{Rule}
use Rattle.pdl_image.specs.Images.{at_line}
use Rattle.pdl_image.specs.Delays.{broken_row, first_wrong_row, row_word}
use Rattle.pdl_image.specs.Lines.{lines}
use Rattle.pdl_image.specs.declared.file_error.FileError.TheVariants.{Refused}
use Rattle.pdl_image.proofs.TakenLines.{lines_of_none}

bit_below : (b : Bool) (n p : ℕ) → n < p → (if b then 1 else 0) + 2 * n < p + p
bit_below true n p h = omega (arith, h)
bit_below false n p h = omega (arith, h)

-- a row has a bit for each of its characters
row_word_below : (row : List ℕ) (n : ℕ) → length row ≤ n → row_word row < 2 ^ n
unfolding row_word
row_word_below [] n h = pow_pos n
row_word_below (c ∷ cs) zero h = absurd (omega (arith, h))
row_word_below (c ∷ cs) (suc n) h = rw (two-pow-succ n) (bit_below (c == 49) (row_word cs) (2 ^ n) (row_word_below cs n (omega (arith, h))))

-- what is left of a row of at most 16 bits, but one of them
pub row_word_fits : (row : List ℕ) (left : ℕ) → 0 < left → length row ≤ 16 → row_word (drop left row) < 32768
row_word_fits row left h few = row_word_below (drop left row) 15 (rw (length-drop left row) (omega (arith, h, few)))

-- what is left of a row after its last character has the word 0
pub row_word_end : (row : List ℕ) → 0 ≡ row_word (drop (length row) row)
unfolding row_word
row_word_end row = ap row_word (sym (drop-length row))

-- what is left of a row, one character before
pub row_word_before : (row : List ℕ) (left : ℕ)
    → left < length row
    → row_word (drop left row) ≡ (if get_or row left 0 == 49 then 1 else 0) + 2 * row_word (drop (left + 1) row)
unfolding row_word
row_word_before row left h = ap row_word (drop_more row left 0 h)

-- ---- rows

-- these rows are left of all, and the others were taken
pub record TakenRows (count : ℕ) (all left : List (List ℕ)) (number : ℕ) (words : List ℕ) : Type 0 where
  pub same : first_wrong_row count 1 all ≡ first_wrong_row count number left
  pub given : map row_word all ≡ words ++ map row_word left

next_row : (count number : ℕ) (row : List ℕ) (later : List (List ℕ))
    → first_wrong_row count number (row ∷ later) ≡ at_line number (broken_row count number row) (first_wrong_row count (number + 1) later)
unfolding first_wrong_row
next_row count number row later = refl

-- before the first row all rows are left and none is taken
pub no_rows_taken : (count : ℕ) (all : List (List ℕ)) (words : List ℕ) → words ≡ [] → TakenRows count all all 1 words
no_rows_taken count all words e = record { same = refl; given = ap (λ ws. ws ++ map row_word all) (sym e) }

-- a row that breaks no rule is taken after those before it, with its word
pub row_taken : (count : ℕ) (all left : List (List ℕ)) (number : ℕ) (words new : List ℕ) (row : List ℕ) (later : List (List ℕ)) (word : ℕ)
    → TakenRows count all left number words → left ≡ row ∷ later → broken_row count number row ≡ None
    → word ≡ row_word row → new ≡ words ++ word ∷ [] → TakenRows count all later (number + 1) new
row_taken count all left number words new row later word t e b f g = record {
  same =
      t.same ∙ ap (first_wrong_row count number) e ∙ next_row count number row later ∙ ap (λ o. at_line number o (first_wrong_row count (number + 1) later)) b;
  given =
      t.given ∙ ap (λ rs. words ++ map row_word rs) e ∙ ap (λ w. words ++ w ∷ map row_word later) (sym f)
      ∙ sym (append_assoc words (word ∷ []) (map row_word later)) ∙ ap (λ ws. ws ++ map row_word later) (sym g);
}

-- where the next row breaks a rule, it is the first wrong row of all, refused by this rule
pub wrong_row_found : (count : ℕ) (all left : List (List ℕ)) (number : ℕ) (words : List ℕ) (row : List ℕ)
    (later : List (List ℕ)) (rule : Rule)
    → TakenRows count all left number words → left ≡ row ∷ later → broken_row count number row ≡ Some rule
    → first_wrong_row count 1 all ≡ Some (Refused rule number)
wrong_row_found count all left number words row later rule t e b =
    t.same ∙ ap (first_wrong_row count number) e ∙ next_row count number row later ∙ ap (λ o. at_line number o (first_wrong_row count (number + 1) later)) b

no_row_wrong : (count number : ℕ) → first_wrong_row count number [] ≡ None
unfolding first_wrong_row
no_row_wrong count number = refl

-- once all rows are taken, none is wrong and the words are those of all rows
pub all_rows_taken : (count : ℕ) (all : List (List ℕ)) (number : ℕ) (text words : List ℕ)
    → TakenRows count all (lines text) number words → length text ≡ 0
    → (first_wrong_row count 1 all ≡ None) × (words ≡ map row_word all)
all_rows_taken count all number text words t h =
    let e : lines text ≡ [] = lines_of_none text h in
    (t.same ∙ ap (first_wrong_row count number) e ∙ no_row_wrong count number, sym (t.given ∙ ap (λ rs. words ++ map row_word rs) e ∙ append-nil words))
