-- Words as two's complement are whole numbers.
use Rattle.std.proofs.Common.{◌≡◌, ℕ, ◌+◌, ◌-◌, ◌%◌, ◌^◌, ◌<◌, ◌≤◌, arith, ap, sym, ◌∙◌, inl, inr}
use Rattle.std.proofs.Math.Nat.{mod-eq_of_lt, add-mod_right}
use Rattle.std.proofs.lemmas.Bool.{cases_lt}
use Rattle.std.proofs.lemmas.Nat.{pow_pos}
use Rattle.std.proofs.lemmas.Int.{ints}
use Rattle.std.specs.Prelude.{pos, ◌-ℤ◌, int_lt, nat_lt}
use Rattle.pdl_word.specs.Words.{bit, lts, sext, sign_shifted}
use Rattle.pdl_word.proofs.Signs.{halves, wider, sext_low, sext_high}
use Rattle.pdl_plain.specs.Signed.{to_signed, ComparesNumbers, IsExtended, ExtendsNumbers}

low_is : (w a : ℕ) → a < 2 ^ (w - 1) → to_signed w a ≡ pos a
low_is w a h = grind arith

high_is : (w a : ℕ) → 2 ^ (w - 1) ≤ a → to_signed w a ≡ pos a -ℤ pos (2 ^ w)
high_is w a h = grind arith

-- the whole number is what is compared, less half of the range
centred : (w a : ℕ) → 1 ≤ w → a < 2 ^ w → to_signed w a ≡ pos (sign_shifted w a) -ℤ pos (2 ^ (w - 1))
centred w a l h =
    elim (cases_lt a (2 ^ (w - 1))) [
      | inl low ↦
          let e : sign_shifted w a ≡ a + 2 ^ (w - 1) = mod-eq_of_lt (omega (arith, halves w l)) in
          low_is w a low ∙ omega (arith, ints, e)
      | inr high ↦
          let e : a + 2 ^ (w - 1) ≡ a - 2 ^ (w - 1) + 2 ^ w = omega (arith, halves w l) in
          let f : sign_shifted w a ≡ a - 2 ^ (w - 1) =
          ap (λ x. x % 2 ^ w) e ∙ add-mod_right (a - 2 ^ (w - 1)) (2 ^ w) ∙ mod-eq_of_lt (omega (arith, pow_pos (w - 1))) in
          high_is w a high ∙ omega (arith, ints, halves w l, f)
    ]

same_order : (x y c : ℕ) → nat_lt x y ≡ int_lt (pos x -ℤ pos c) (pos y -ℤ pos c)
same_order x y c = grind (arith, ints)

-- `lts` compares whole numbers
pub compares : ComparesNumbers
unfolding lts
compares w a b l h k = rw (centred w a l h, centred w b l k) (ap bit (same_order (sign_shifted w a) (sign_shifted w b) (2 ^ (w - 1))))

-- words of one number are one word
one_word : (w x y : ℕ) → 1 ≤ w → x < 2 ^ w → y < 2 ^ w → to_signed w x ≡ to_signed w y → x ≡ y
one_word w x y l h k e =
    elim (cases_lt x (2 ^ (w - 1))) [
      | inl a ↦ elim (cases_lt y (2 ^ (w - 1))) [
        | inl b ↦ omega (arith, ints, sym (low_is w x a) ∙ e ∙ low_is w y b)
        | inr b ↦ omega (arith, ints, sym (low_is w x a) ∙ e ∙ high_is w y b)
      ]
      | inr a ↦ elim (cases_lt y (2 ^ (w - 1))) [
        | inl b ↦ omega (arith, ints, sym (high_is w x a) ∙ e ∙ low_is w y b)
        | inr b ↦ omega (arith, ints, sym (high_is w x a) ∙ e ∙ high_is w y b)
      ]
    ]

-- a word is extended, if its extension is below the bound and of its number
extended : (w n a : ℕ) → 1 ≤ n → sext w n a < 2 ^ n → to_signed n (sext w n a) ≡ to_signed w a → IsExtended w n a
extended w n a l h e = record { below = h; same = e; only = λ x k f. one_word n x (sext w n a) l k h (f ∙ sym e) }

-- `sext` keeps the whole number, and nothing else does
pub extends : ExtendsNumbers
extends w n a l h k =
    elim (cases_lt a (2 ^ (w - 1))) [
      | inl low ↦
          let s : sext w n a ≡ a = sext_low w n a l h low in
          let q : 2 ^ (w - 1) ≤ 2 ^ (n - 1) = wider (w - 1) (n - 1) (omega arith) in
          extended w n a (omega arith) (omega (arith, s, wider w n h)) (low_is n (sext w n a) (omega (arith, s, q)) ∙ ap pos s ∙ sym (low_is w a low))
      | inr high ↦
          let s : sext w n a ≡ a + (2 ^ n - 2 ^ w) = sext_high w n a l h high k in
          let q : 2 ^ (w - 1) ≤ 2 ^ (n - 1) = wider (w - 1) (n - 1) (omega arith) in
          let r : 2 ^ (n - 1) ≤ sext w n a = omega (arith, s, q, halves w l, halves n (omega arith), wider w n h) in
          extended w n a (omega arith) (omega (arith, s, wider w n h))
          (high_is n (sext w n a) r ∙ omega (arith, ints, s, wider w n h) ∙ sym (high_is w a high))
    ]
