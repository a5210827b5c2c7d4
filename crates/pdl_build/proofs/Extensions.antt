-- Extensions made of cells: zeros, or copies of the top bit, above a word.
use Rattle.std.proofs.Common.{◌≡◌, ℕ, zero, suc, ◌+◌, ◌-◌, ◌*◌, ◌/◌, ◌^◌, ◌<◌, ◌≤◌, refl, sym, ap, ◌∙◌, subst, arith, inl, inr}
use Rattle.std.proofs.lemmas.Bool.{cases_lt}
use Rattle.std.proofs.lemmas.Bool.Decides.{eqb_tells}
use Rattle.std.proofs.lemmas.Nat.{pow-add}
use Rattle.std.proofs.Math.Nat.{div-eq_of_lt, div-eq_of_lt-le, zero-mod}
use Rattle.pdl_word.specs.Words.{cat, rep, slice, zext, sext}
use Rattle.pdl_word.proofs.Signs.{sext_low, sext_high, halves}
use Rattle.pdl_net.specs.Circuit.{State}
use Rattle.pdl_net.specs.Signal.{Signal, const_value, cat_value, rep_value, slice_value}
use Rattle.pdl_build.specs.Operators.{zext_signal, sext_signal, raised_signal}

-- WIDTHS

-- with zeros above it up to n bits, a signal of at most n bits has n bits
pub zext_width : (n : ℕ) (a : Signal) → a.width ≤ n → (zext_signal n a).width ≡ n
unfolding zext_signal
zext_width n a h = elim (eqb_tells n a.width) [
  | inl e ↦ rw (e.0) (sym e.1)
  | inr e ↦ rw (e.0) (omega arith)
]

-- a slice of the top bit has one bit
one_bit : (w : ℕ) → w - 1 + 1 - (w - 1) ≡ 1
one_bit w = omega arith

-- with copies of its top bit above it up to n bits, a signal of at most n bits has n bits
pub sext_width : (n : ℕ) (a : Signal) → a.width ≤ n → (sext_signal n a).width ≡ n
unfolding sext_signal
sext_width n a h = elim (eqb_tells n a.width) [
  | inl e ↦ rw (e.0) (sym e.1)
  | inr e ↦ rw (e.0, one_bit a.width) (omega arith)
]

-- ZEROS

zeros_above : (v a : ℕ) → cat v 0 a ≡ zext a
unfolding cat zext
zeros_above v a = omega arith

-- zeros above a signal give its word extended by zeros
pub zext_value : (n : ℕ) (a : Signal) (s : State) → (zext_signal n a).value s ≡ zext (a.value s)
unfolding zext_signal zext cat_value const_value
zext_value n a s = elim (eqb_tells n a.width) [
  | inl e ↦ rw (e.0) refl
  | inr e ↦ rw (e.0) (zeros_above a.width (a.value s))
]

-- COPIES OF THE TOP BIT

-- nothing is copied where there are no more bits
sext_same : (w a : ℕ) → 1 ≤ w → a < 2 ^ w → sext w w a ≡ a
sext_same w a l f = elim (cases_lt a (2 ^ (w - 1))) [
  | inl low ↦ sext_low w w a l (omega arith) low
  | inr high ↦ sext_high w w a l (omega arith) high f ∙ omega arith
]

copies_of_zero : (k : ℕ) → rep 1 k 0 ≡ 0
unfolding rep
copies_of_zero zero = refl
copies_of_zero (suc k) = omega (arith, copies_of_zero k)

copies_of_one : (k : ℕ) → rep 1 k 1 + 1 ≡ 2 ^ k
unfolding rep
copies_of_one zero = refl
copies_of_one (suc k) = omega (arith, copies_of_one k)

top_of_low : (w a : ℕ) → a < 2 ^ (w - 1) → slice (w - 1) (w - 1) a ≡ 0
unfolding slice
top_of_low w a h = rw (div-eq_of_lt h) (zero-mod (2 ^ (w - 1 + 1 - (w - 1))))

top_of_high : (w a : ℕ) → 1 ≤ w → 2 ^ (w - 1) ≤ a → a < 2 ^ w → slice (w - 1) (w - 1) a ≡ 1
unfolding slice
top_of_high w a l h k =
    let one : a / 2 ^ (w - 1) ≡ 1 = div-eq_of_lt-le (2 ^ (w - 1)) (omega arith) (omega (arith, halves w l)) in
    let bits : w - 1 + 1 - (w - 1) ≡ 1 = omega arith in
    rw (one, bits) refl

copied_low : (w n a : ℕ) → 1 ≤ w → w ≤ n → a < 2 ^ (w - 1) → cat w (rep 1 (n - w) (slice (w - 1) (w - 1) a)) a ≡ sext w n a
unfolding cat
copied_low w n a l h k =
    rw (top_of_low w a k, copies_of_zero (n - w), sext_low w n a l h k) (omega arith)

copied_high : (w n a : ℕ) → 1 ≤ w → w ≤ n → 2 ^ (w - 1) ≤ a → a < 2 ^ w → cat w (rep 1 (n - w) (slice (w - 1) (w - 1) a)) a ≡ sext w n a
unfolding cat
copied_high w n a l h k f =
    let c = copies_of_one (n - w) in
    let e : n - w + w ≡ n = omega arith in
    let P : ℕ → Type 0 = λ k. 2 ^ k ≡ 2 ^ (n - w) * 2 ^ w in
    let p : 2 ^ n ≡ 2 ^ (n - w) * 2 ^ w = subst P e (pow-add 2 (n - w) w) in
    let q : (rep 1 (n - w) 1 + 1) * 2 ^ w ≡ 2 ^ n = ap (λ x. x * 2 ^ w) c ∙ sym p in
    rw (top_of_high w a l k f, sext_high w n a l h k f) (omega (arith, q))

-- copies of the top bit above a signal that fits its width give its word extended by its sign
pub sext_value : (n : ℕ) (a : Signal) (s : State)
    → 1 ≤ a.width → a.width ≤ n → a.value s < 2 ^ a.width → (sext_signal n a).value s ≡ sext a.width n (a.value s)
unfolding sext_signal cat_value rep_value slice_value
sext_value n a s l h f = elim (eqb_tells n a.width) [
  | inl e ↦ rw (e.0, e.1) (sym (sext_same a.width (a.value s) l f))
  | inr e ↦ rw (e.0, one_bit a.width) (elim (cases_lt (a.value s) (2 ^ (a.width - 1))) [
    | inl low ↦ copied_low a.width n (a.value s) l h low
    | inr high ↦ copied_high a.width n (a.value s) l h high f
  ])
]

-- HALF OF THE RANGE ADDED

-- a signal with half of its range added is as wide as before
pub raised_width : (a : Signal) → (raised_signal a).width ≡ a.width
unfolding raised_signal
raised_width a = refl
