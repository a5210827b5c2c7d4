-- The image of a text, read back.
use Rattle.std.proofs.Common.{◌≡◌, ℕ, ◌^◌, ◌<◌, ◌≤◌, refl, sym, ◌∙◌, ap, subst, arith, inl, inr, List, [], ◌∷◌, ◌++◌, append_assoc, Option, Some, None, decimal}
use Rattle.std.specs.Prelude.{Ok}
use Rattle.std.specs.Str.Parse.{digits_value}
use Rattle.std.proofs.Math.Nat.{pow-le-pow_right}
use Rattle.std.proofs.lemmas.Bool.{and_parts, cases_lt}
use Rattle.std.proofs.lemmas.Fmt.{decimal_is_IsNumeral}
use Rattle.pdl_word.proofs.Digits.{decimal_digits, are_hex_digits, hex_value}
use Rattle.pdl_kit.specs.declared.mem_info.MemInfo.{MemInfo}
use Rattle.pdl_semantics.specs.Lines.{hex_digits}
use Rattle.pdl_image.specs.Images.{image as image_read, is_name}
use Rattle.pdl_image.proofs.ReadBackImages.{Gives, Says, read_back, says}
use Rattle.pdl_asm_table.specs.Tables.{IsTable, TableValue}
use Rattle.pdl_asm.specs.declared.asm_error.AsmError.{AsmError}
use Rattle.pdl_asm.specs.Assembly.{addresses, first_wrong, image, image_text, image_unless, labels_of, word_line}
use Rattle.pdl_asm.specs.ReadBack.{IsReadBack, Takes, lines_in, word_in, words_in}
use Rattle.pdl_asm.proofs.LineSteps.{addresses_are}
use Rattle.pdl_asm.proofs.WordsFit.{written_fits}
use Rattle.pdl_word.specs.Digits.{hex}

-- ---- digits

decimal_value : (n : ℕ) → n < 65536 → n ≡ digits_value 10 (decimal n)
decimal_value n h = sym (decimal_is_IsNumeral n (omega (arith, h))).1

-- ---- the lines

-- the line of a word without its line feed
line_of_word : TableValue → ℕ → ℕ → List ℕ
line_of_word t a v = t.mem ++ 32 ∷ (decimal a ++ 32 ∷ hex (hex_digits t.word) v)

fed : (t : TableValue) (a v : ℕ) → word_line t.mem t.word a (Some v) ≡ line_of_word t a v ++ 10 ∷ []
unfolding line_of_word
fed t a v =
    let digits : List ℕ = hex (hex_digits t.word) v in
    ap (λ xs. xs ++ 10 ∷ []) (append_assoc ((t.mem ++ 32 ∷ []) ++ decimal a) (32 ∷ []) digits
    ∙ append_assoc (t.mem ++ 32 ∷ []) (decimal a) (32 ∷ digits) ∙ append_assoc t.mem (32 ∷ []) (decimal a ++ 32 ∷ digits))

word_said : (t : TableValue) (a v : ℕ) → IsTable t → a < 65536 → v < 2 ^ t.word → Says (line_of_word t a v) t.mem a v
unfolding line_of_word
word_said t a v h l s =
    says t.mem (decimal a) (hex (hex_digits t.word) v) a v (and_parts (is_name t.mem) _ h.mem).0
    (decimal_digits 10 a (omega arith) (omega (arith, l)) (omega (arith, l))) (are_hex_digits t.word v h.low h.high)
    (decimal_value a l) (sym (hex_value t.word v s))

-- an address is below 65,536
below_all : (a : ℕ) → a < addresses → a < 65536
below_all a l = subst (λ n. a < n) addresses_are l

module _ (t : TableValue) (text : List ℕ) (m : MemInfo) (h : IsTable t) (k : Takes t text m) where
  value_fits : (a v : ℕ) → word_in t text a ≡ Some v → v < 2 ^ t.word
  unfolding word_in
  value_fits a v e = written_fits t (labels_of (lines_in t text)) (lines_in t text) a v h e

  address_fits : (a v : ℕ) → a < addresses → word_in t text a ≡ Some v → a < m.depth
  address_fits a v l e = elim (cases_lt a m.depth) [
    | inl b ↦ b
    | inr b ↦
        let f : Some v ≡ None = sym e ∙ k.room a b (below_all a l) in
        cc
  ]

  wide : 2 ^ t.word ≤ 2 ^ m.width
  wide = pow-le-pow_right (omega arith) {i = t.word} {j = m.width} k.width

  gives : Gives m addresses (word_in t text) (word_line t.mem t.word) (line_of_word t)
  gives = record {
    none = λ a. refl;
    some = fed t;
    says = λ a v l e. subst (λ n. Says (line_of_word t a v) n a v) (sym k.name) (word_said t a v h (below_all a l) (value_fits a v e));
    fits = λ a v l e. (address_fits a v l e, omega (arith, value_fits a v e, wide));
  }

ok_of : (o : Option AsmError) (made bytes : List ℕ) → image_unless o made ≡ Ok bytes → made ≡ bytes
ok_of None made bytes e = cc
ok_of (Some refusal) made bytes e = cc

-- what the image is, by the words
bytes_are : (t : TableValue) (text bytes : List ℕ) → image t text ≡ Ok bytes → image_text t (word_in t text) ≡ bytes
unfolding image word_in
bytes_are t text bytes e = ok_of (first_wrong t (labels_of (lines_in t text)) [] 1 (lines_in t text)) _ bytes e

-- read back, the image of a text gives a memory that takes it the text's words
pub reads_back : (t : TableValue) (text bytes : List ℕ) → IsTable t → image t text ≡ Ok bytes → IsReadBack t text bytes
reads_back t text bytes h e m k =
    subst (λ b. image_read (m ∷ []) b ≡ Ok (words_in t text m.depth ∷ [])) (bytes_are t text bytes e)
    (read_back m addresses (word_in t text) (word_line t.mem t.word) (line_of_word t) (gives t text m h k)
    (subst (λ n. m.depth ≤ n) (sym addresses_are) k.depth))
