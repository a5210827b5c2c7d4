-- Laws of words: what an operator gives on one word twice, or on a word and a constant.
use Rattle.std.proofs.Common.{◌≡◌, ℕ, ◌+◌, ◌-◌, ◌*◌, ◌/◌, ◌%◌, ◌^◌, ◌<◌, ◌≤◌, refl, sym, ap, ◌∙◌, subst, arith, le-ltb, inl, inr, Bool, true, false}
use Rattle.std.specs.Int.Bits.{and_self, or_self, xor_self, and_zero_r, or_zero_r, xor_zero_r, or_add_and}
use Rattle.std.proofs.Math.Nat.{mod-eq_of_lt, add-mod_right, div-div-eq-div-mul}
use Rattle.std.proofs.Math.Pow.{mod-mod-pow}
use Rattle.std.proofs.lemmas.Bool.Decides.{eqb_tells}
use Rattle.std.proofs.lemmas.Nat.{and_mask, pow-add, pow_pos, mod-pow-add, div-mul-add, mod_below}
use Rattle.pdl_word.specs.Words.{mask, add, sub, complement, and, or, xor, equal, differ, less, shl, shr, slice, mux, bit}
use Rattle.pdl_word.proofs.Numbers.{eqb_self}
use Rattle.pdl_word.proofs.Shifts.{shl_within, shr_within}
use Rattle.std.specs.Prelude.{if◌then◌else◌}

-- A WORD AND A CONSTANT

-- the bitwise and of a word and 0 is 0
pub and_zero : (a : ℕ) → and a 0 ≡ 0
unfolding and
and_zero a = and_zero_r a

-- the bitwise and of a word and the largest word is the word
pub and_ones : (w a : ℕ) → a < 2 ^ w → and a (mask w) ≡ a
unfolding and mask
and_ones w a h = and_mask a w ∙ mod-eq_of_lt h

-- the bitwise or of a word and 0 is the word
pub or_zero : (a : ℕ) → or a 0 ≡ a
unfolding or
or_zero a = or_zero_r a

-- the bitwise or of a word and the largest word is the largest word
pub or_ones : (w a : ℕ) → a < 2 ^ w → or a (mask w) ≡ mask w
unfolding or mask
or_ones w a h =
    let e = and_mask a w ∙ mod-eq_of_lt h in
    let s = or_add_and a (2 ^ w - 1) in
    omega (arith, e, s)

-- the bitwise exclusive or of a word and 0 is the word
pub xor_zero : (a : ℕ) → xor a 0 ≡ a
unfolding xor
xor_zero a = xor_zero_r a

-- a word plus 0 is the word
pub add_zero : (w a : ℕ) → a < 2 ^ w → add w a 0 ≡ a
unfolding add
add_zero w a h = let e : a + 0 ≡ a = omega arith in ap (λ x. x % 2 ^ w) e ∙ mod-eq_of_lt h

-- a word minus 0 is the word
pub sub_zero : (w a : ℕ) → a < 2 ^ w → sub w a 0 ≡ a
unfolding sub
sub_zero w a h = let e : a + 2 ^ w - 0 ≡ a + 2 ^ w = omega arith in ap (λ x. x % 2 ^ w) e ∙ add-mod_right a (2 ^ w) ∙ mod-eq_of_lt h

-- a word of at least 1 bit shifted up by 0 places is the word
pub shl_zero : (w a : ℕ) → 1 ≤ w → a < 2 ^ w → shl w a 0 ≡ a
shl_zero w a l h =
    let e : a * 1 ≡ a = omega arith in
    shl_within w a 0 l ∙ ap (λ x. x % 2 ^ w) e ∙ mod-eq_of_lt h

-- a word of at least 1 bit shifted down by 0 places is the word
pub shr_zero : (w a : ℕ) → 1 ≤ w → shr w a 0 ≡ a
shr_zero w a l = shr_within w a 0 l ∙ omega arith

-- ONE WORD TWICE

-- the bitwise and of a word and itself is the word
pub and_same : (a : ℕ) → and a a ≡ a
unfolding and
and_same a = and_self a

-- the bitwise or of a word and itself is the word
pub or_same : (a : ℕ) → or a a ≡ a
unfolding or
or_same a = or_self a

-- the bitwise exclusive or of a word and itself is 0
pub xor_same : (a : ℕ) → xor a a ≡ 0
unfolding xor
xor_same a = xor_self a

-- a word minus itself is 0
pub sub_same : (w a : ℕ) → sub w a a ≡ 0
unfolding sub
sub_same w a =
    let e : a + 2 ^ w - a ≡ 0 + 2 ^ w = omega arith in
    ap (λ x. x % 2 ^ w) e ∙ add-mod_right 0 (2 ^ w) ∙ mod-eq_of_lt (pow_pos w)

-- a word equals itself
pub equal_same : (a : ℕ) → equal a a ≡ 1
unfolding equal
equal_same a = rw (eqb_self a) refl

-- a word doesn't differ from itself
pub differ_same : (a : ℕ) → differ a a ≡ 0
unfolding differ
differ_same a = rw (eqb_self a) refl

-- a word isn't less than itself
pub less_same : (a : ℕ) → less a a ≡ 0
unfolding less
less_same a = rw (le-ltb a a (omega arith)) refl

-- COMPLEMENTS, SLICES, COPIES AND CHOICES

-- the complement of a word's complement is the word
pub complement_twice : (w a : ℕ) → a < 2 ^ w → complement w (complement w a) ≡ a
unfolding complement
complement_twice w a h = omega arith

-- the slice of all bits of a word is the word
pub slice_whole : (w a : ℕ) → 1 ≤ w → a < 2 ^ w → slice (w - 1) 0 a ≡ a
unfolding slice
slice_whole w a l h =
    let e : w - 1 + 1 - 0 ≡ w = omega arith in
    let d : a / 1 ≡ a = omega arith in
    rw (e, d) (mod-eq_of_lt h)

-- the lower bits of a remainder by a power of two
part_of_low : (x n k j : ℕ) → k + j ≤ n → x % 2 ^ n / 2 ^ k % 2 ^ j ≡ x / 2 ^ k % 2 ^ j
part_of_low x n k j h =
    let i = n - k in
    let e : i + k ≡ n = omega arith in
    let P : ℕ → Type 0 = λ m. x % 2 ^ m / 2 ^ k ≡ x / 2 ^ k % 2 ^ i in
    let cut : x % 2 ^ n / 2 ^ k ≡ x / 2 ^ k % 2 ^ i =
    subst P e (ap (λ y. y / 2 ^ k) (mod-pow-add x i k) ∙ div-mul-add (x / 2 ^ k % 2 ^ i) (2 ^ k) (x % 2 ^ k) (mod_below x (2 ^ k) (pow_pos k))) in
    let f : i - j + j ≡ i = omega arith in
    let Q : ℕ → Type 0 = λ m. x / 2 ^ k % 2 ^ m % 2 ^ j ≡ x / 2 ^ k % 2 ^ j in
    ap (λ y. y % 2 ^ j) cut ∙ subst Q f (mod-mod-pow (x / 2 ^ k) (i - j) j)

-- a slice within a slice is the slice of the word that lies as many places higher
pub slice_twice : (high low h l a : ℕ) → l ≤ h → low + h ≤ high → slice h l (slice high low a) ≡ slice (low + h) (low + l) a
unfolding slice
slice_twice high low h l a order within =
    let e : low + h + 1 - (low + l) ≡ h + 1 - l = omega arith in
    let d : a / 2 ^ low / 2 ^ l ≡ a / 2 ^ (low + l) = div-div-eq-div-mul a (2 ^ low) (2 ^ l) ∙ ap (λ x. a / x) (sym (pow-add 2 low l)) in
    part_of_low (a / 2 ^ low) (high + 1 - low) l (h + 1 - l) (omega arith)
    ∙ ap (λ x. x % 2 ^ (h + 1 - l)) d
    ∙ ap (λ n. a / 2 ^ (low + l) % 2 ^ n) (sym e)

-- a choice of 1 by 1 is the choice
pub mux_one : (c : ℕ) → c < 2 → mux c 1 0 ≡ c
unfolding mux
mux_one c h = elim (eqb_tells c 1) [
  | inl e ↦ rw (e.0) (sym e.1)
  | inr e ↦ rw (e.0) (omega (arith, e.1))
]

-- the choice of 0 where a bit is 1, and of 1 where it is 0, is the bit's complement
pub mux_other : (c : ℕ) → c < 2 → mux c 0 1 ≡ complement 1 c
unfolding mux complement
mux_other c h = elim (eqb_tells c 1) [
  | inl e ↦ rw (e.0) (omega (arith, e.1))
  | inr e ↦ rw (e.0) (omega (arith, e.1))
]

-- a choice by a bit
pub mux_bit : (t : Bool) (a b : ℕ) → mux (bit t) a b ≡ (if t then a else b)
unfolding mux
mux_bit true a b = refl
mux_bit false a b = refl
