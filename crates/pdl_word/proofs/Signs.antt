-- Words as two's complement: their order, and more bits above.
use Rattle.std.proofs.Common.{◌≡◌, ℕ, ◌+◌, ◌-◌, ◌*◌, ◌/◌, ◌%◌, ◌^◌, ◌<◌, ◌≤◌, arith, ap, sym, ◌∙◌, subst, inl, inr}
use Rattle.std.proofs.Math.Nat.{mod-eq_of_lt, add-mod_right, pow-le-pow_right, lt-mul-div-succ, div-eq_of_lt}
use Rattle.std.proofs.lemmas.Bool.{cases_lt}
use Rattle.std.proofs.lemmas.Nat.{pow_pos, pow-add}
use Rattle.pdl_word.proofs.Masks.{one_shifted}
use Rattle.pdl_word.specs.Words.{widest, add, less, lts, sext, mask, sign_shifted}

-- words raised by half of the range, as code computes it in the widest word, are in the order of two's complement
pub lts_raised : (w a b x y : ℕ)
    → 1 ≤ w → w ≤ widest → x ≡ add w a (1 * 2 ^ (w - 1) % 2 ^ widest) → y ≡ add w b (1 * 2 ^ (w - 1) % 2 ^ widest)
    → less x y ≡ lts w a b
unfolding lts less add
lts_raised w a b x y l h p q =
    let e : 1 * 2 ^ (w - 1) % 2 ^ widest ≡ 2 ^ (w - 1) = one_shifted (w - 1) (omega arith) in
    cc

-- a width's range has two halves
pub halves : (w : ℕ) → 1 ≤ w → 2 ^ w ≡ 2 ^ (w - 1) + 2 ^ (w - 1)
halves w l =
    let e : w - 1 + 1 ≡ w = omega arith in
    let P : ℕ → Type 0 = λ k. 2 ^ k ≡ 2 ^ (w - 1) * 2 in
    omega (arith, subst P e (pow-add 2 (w - 1) 1))

raised_low : (w a : ℕ) → 1 ≤ w → a < 2 ^ (w - 1) → sign_shifted w a ≡ a + 2 ^ (w - 1)
raised_low w a l h = mod-eq_of_lt (omega (arith, halves w l))

raised_high : (w a : ℕ) → 1 ≤ w → 2 ^ (w - 1) ≤ a → a < 2 ^ w → sign_shifted w a ≡ a - 2 ^ (w - 1)
raised_high w a l h k =
    let e : a + 2 ^ (w - 1) ≡ a - 2 ^ (w - 1) + 2 ^ w = omega (arith, halves w l) in
    ap (λ x. x % 2 ^ w) e ∙ add-mod_right (a - 2 ^ (w - 1)) (2 ^ w) ∙ mod-eq_of_lt (omega (arith, pow_pos (w - 1)))

-- a wider word has at least as many values
pub wider : (w n : ℕ) → w ≤ n → 2 ^ w ≤ 2 ^ n
wider w n h = pow-le-pow_right (omega arith) h

-- a word whose top bit is 0 stays as it is with its sign above
pub sext_low : (w n a : ℕ) → 1 ≤ w → w ≤ n → a < 2 ^ (w - 1) → sext w n a ≡ a
unfolding sext
sext_low w n a l h k =
    let r : sign_shifted w a ≡ a + 2 ^ (w - 1) = raised_low w a l k in
    let e : sign_shifted w a + 2 ^ n - 2 ^ (w - 1) ≡ a + 2 ^ n = omega (arith, r) in
    ap (λ x. x % 2 ^ n) e ∙ add-mod_right a (2 ^ n) ∙ mod-eq_of_lt (omega (arith, halves w l, wider w n h))

-- a word whose top bit is 1 gets ones above it with its sign
pub sext_high : (w n a : ℕ) → 1 ≤ w → w ≤ n → 2 ^ (w - 1) ≤ a → a < 2 ^ w → sext w n a ≡ a + (2 ^ n - 2 ^ w)
unfolding sext
sext_high w n a l h k f =
    let r : sign_shifted w a ≡ a - 2 ^ (w - 1) = raised_high w a l k f in
    let e : sign_shifted w a + 2 ^ n - 2 ^ (w - 1) ≡ a + (2 ^ n - 2 ^ w) = omega (arith, r, halves w l, wider w n h) in
    ap (λ x. x % 2 ^ n) e ∙ mod-eq_of_lt (omega (arith, wider w n h))

-- the top bit as a shift reads it
top_clear : (w a : ℕ) → a / 2 ^ (w - 1) ≡ 0 → a < 2 ^ (w - 1)
top_clear w a e =
    let h : a < 2 ^ (w - 1) * (a / 2 ^ (w - 1) + 1) = lt-mul-div-succ a (pow_pos (w - 1)) in
    let f : a < 2 ^ (w - 1) * 1 = rw e at h in
    omega arith

-- a word whose top bit is 0, by a shift, is the same with its sign above
pub sext_of_clear : (w n a : ℕ) → 1 ≤ w → w ≤ n → a / 2 ^ (w - 1) ≡ 0 → a ≡ sext w n a
sext_of_clear w n a l h e = sym (sext_low w n a l h (top_clear w a e))

-- a word whose top bit isn't 0, by a shift, gets its sign above by the difference of two largest words
pub sext_of_set : (w n a x y : ℕ)
    → x ≡ mask n → y ≡ mask w → 1 ≤ w → w ≤ n → a < 2 ^ w → (a / 2 ^ (w - 1) ≡ 0 → ⊥) → a + (x - y) ≡ sext w n a
unfolding mask
sext_of_set w n a x y p q l h f no_zero =
    elim (cases_lt a (2 ^ (w - 1))) [
      | inl low ↦ absurd (no_zero (div-eq_of_lt low))
      | inr high ↦
          let e : x - y ≡ 2 ^ n - 2 ^ w = omega (arith, p, q, wider w n h, pow_pos w) in
          sym (sext_high w n a l h high f ∙ ap (λ z. a + z) (sym e))
    ]
