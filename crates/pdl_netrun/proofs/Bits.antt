-- Words of a width, cut out of 64 bits by shifts.
use Rattle.std.proofs.Common.{◌≡◌, refl, sym, ap, ap₂, ◌∙◌, subst, ℕ, zero, suc, ◌+◌, ◌-◌, ◌*◌, ◌/◌, ◌%◌, ◌^◌, ◌<◌, ◌≤◌, min, bit_and, pow-add, arith}
use Rattle.std.proofs.lemmas.Nat.{mod-pow-add, shl-shr, pow_pos, one_shl}
use Rattle.std.proofs.Math.Nat.{mul-mod_left, mul-suc, suc-mul, mul-le-mul_right, add-mul-mod_self_left, mod-eq_of_lt, pow-succ', pow-le-pow_right}
use Rattle.pdl_word.specs.Words.{mask, add, sub, mul, complement, shl, shr, slice, rep}
use Rattle.pdl_word.proofs.Masks.{mod_of_lowest, and_with_mask}
use Rattle.pdl_word.proofs.Bounds.{rep_below}
use Rattle.pdl_word.proofs.Shifts.{shl_within, shr_within}
use Rattle.pdl_netrun.specs.Steps.{mask_within}

-- of up to 64 bits the mask is the largest word
pub cut : (w : ℕ) → w ≤ 64 → mask_within w ≡ mask w
cut w h = let e : min w 64 ≡ w = omega (arith, h) in ap mask e

-- 1 shifted up in 64 bits, by fewer places than these, is that power of two
pub one_shifted : (w : ℕ) → w < 64 → 1 * 2 ^ w % 2 ^ 64 ≡ 2 ^ w
one_shifted w h = one_shl w 64 h

-- a word of up to 64 bits is no more than the mask, and taken from it has each bit the other way
pub complemented : (w a m : ℕ) → m ≡ mask_within w → w ≤ 64 → a < 2 ^ w → (a ≤ m) × (m - a ≡ complement w a)
unfolding mask complement
complemented w a m e h l =
    let f : m ≡ 2 ^ w - 1 = e ∙ cut w h in
    (omega (arith, f, l), ap (λ x. x - a) f)

-- what is shifted out at the top and back is gone
pub top_off : (n w : ℕ) → w ≤ 64 → n * 2 ^ (64 - w) % 2 ^ 64 / 2 ^ (64 - w) ≡ n % 2 ^ w
top_off n w h =
    let s = 64 - w in
    let e : w + s ≡ 64 = omega arith in
    let z : n % 2 ^ w * 2 ^ s + 0 ≡ n % 2 ^ w * 2 ^ s = omega arith in
    let p : n * 2 ^ s % 2 ^ (w + s) ≡ n % 2 ^ w * 2 ^ s =
    mod-pow-add (n * 2 ^ s) w s ∙ ap₂ (λ x y. x % 2 ^ w * 2 ^ s + y) (shl-shr n s) (mul-mod_left n (2 ^ s)) ∙ z in
    ap (λ k. n * 2 ^ s % 2 ^ k / 2 ^ s) (sym e) ∙ ap (λ x. x / 2 ^ s) p ∙ shl-shr (n % 2 ^ w) s

-- the lowest w bits of a sum of 64 bits are the sum of w bits
pub added : (w a b : ℕ) → w ≤ 64 → (a + b) % 2 ^ 64 % 2 ^ w ≡ add w a b
unfolding add
added w a b h = mod_of_lowest 64 (a + b) w h

-- the lowest w bits of a product of 64 bits are the product of w bits
pub multiplied : (w a b : ℕ) → w ≤ 64 → a * b % 2 ^ 64 % 2 ^ w ≡ mul w a b
unfolding mul
multiplied w a b h = mod_of_lowest 64 (a * b) w h

-- a sum of 64 bits cut to w of them
pub sum_cut : (w a b m : ℕ) → m ≡ mask_within w → w ≤ 64 → bit_and ((a + b) % 2 ^ 64) m ≡ add w a b
sum_cut w a b m e h = and_with_mask ((a + b) % 2 ^ 64) w m (e ∙ cut w h) ∙ added w a b h

-- a product of 64 bits cut to w of them
pub product_cut : (w a b m : ℕ) → m ≡ mask_within w → w ≤ 64 → bit_and (a * b % 2 ^ 64) m ≡ mul w a b
product_cut w a b m e h = and_with_mask (a * b % 2 ^ 64) w m (e ∙ cut w h) ∙ multiplied w a b h

-- the bits from one on, cut to as many as a slice has
pub slice_cut : (high low a m : ℕ) → m ≡ mask_within (high + 1 - low) → high < 64 → bit_and (a / 2 ^ low) m ≡ slice high low a
unfolding slice
slice_cut high low a m e h = and_with_mask (a / 2 ^ low) (high + 1 - low) m (e ∙ cut (high + 1 - low) (omega (arith, h)))

-- A BIT, REPEATED

-- k copies of the bit 0 are 0
pub no_bits : (k a : ℕ) → a ≡ 0 → rep 1 k a ≡ 0
unfolding rep
no_bits zero a e = refl
no_bits (suc k) a e = let r = no_bits k a e in omega (arith, r, e)

-- k copies of the bit 1 are the largest word of k bits
pub all_bits : (k a : ℕ) → a ≡ 1 → rep 1 k a ≡ mask k
unfolding rep mask
all_bits zero a e = refl
all_bits (suc k) a e = let r = all_bits k a e in let p = pow_pos k in let q = pow-succ' 2 k in omega (arith, r, e, p, q)

-- DIFFERENCES AND SHIFTS

-- 64 bits of a difference have its lower ones
pub subtracted : (w a b : ℕ) → w ≤ 64 → b < 2 ^ w → (a + (2 ^ 64 - b)) % 2 ^ 64 % 2 ^ w ≡ sub w a b
unfolding sub
subtracted w a b h l =
    let e : w + (64 - w) ≡ 64 = omega arith in
    let p : 2 ^ 64 ≡ 2 ^ w * 2 ^ (64 - w) = ap (λ k. 2 ^ k) (sym e) ∙ pow-add 2 w (64 - w) in
    go (2 ^ (64 - w)) p (pow_pos (64 - w))
  where
    go : (q : ℕ) → 2 ^ 64 ≡ 2 ^ w * q → 0 < q → (a + (2 ^ 64 - b)) % 2 ^ 64 % 2 ^ w ≡ (a + 2 ^ w - b) % 2 ^ w
    go zero p z = absurd (omega arith)
    go (suc r) p z =
        let m : 2 ^ w * suc r ≡ 2 ^ w * r + 2 ^ w = mul-suc (2 ^ w) r in
        let f : a + (2 ^ 64 - b) ≡ (a + 2 ^ w - b) + 2 ^ w * r = omega (arith, p, m, l) in
        mod_of_lowest 64 (a + (2 ^ 64 - b)) w h ∙ ap (λ x. x % 2 ^ w) f ∙ add-mul-mod_self_left (a + 2 ^ w - b) (2 ^ w) r

-- a difference of 64 bits cut to w of them
pub difference_cut : (w a b m : ℕ) → m ≡ mask_within w → w ≤ 64 → b < 2 ^ w → bit_and ((a + (2 ^ 64 - b)) % 2 ^ 64) m ≡ sub w a b
difference_cut w a b m e h l = and_with_mask ((a + (2 ^ 64 - b)) % 2 ^ 64) w m (e ∙ cut w h) ∙ subtracted w a b h l

-- a shift by less than the width
pub moved_up : (w a b : ℕ) → w ≤ 64 → b < w → a * 2 ^ (b % 64) % 2 ^ 64 % 2 ^ w ≡ shl w a b
moved_up w a b h l =
    let m : b % 64 ≡ b = mod-eq_of_lt (omega arith) in
    ap (λ k. a * 2 ^ k % 2 ^ 64 % 2 ^ w) m ∙ mod_of_lowest 64 (a * 2 ^ b) w h ∙ sym (shl_within w a b l)

-- a shift down of 64 bits is one of w bits, where it is by less than w
pub moved_down : (w a b : ℕ) → w ≤ 64 → b < w → a / 2 ^ (b % 64) ≡ shr w a b
moved_down w a b h l =
    let m : b % 64 ≡ b = mod-eq_of_lt (omega arith) in
    ap (λ k. a / 2 ^ k) m ∙ sym (shr_within w a b l)

-- WORDS ABOVE OTHERS

-- a word above v bits fits 64 bits
pub joined : (a v : ℕ) → v < 64 → a < 2 ^ (64 - v) → (a * 2 ^ v + 2 ^ v ≤ 2 ^ 64) × (a * 2 ^ v % 2 ^ 64 ≡ a * 2 ^ v)
joined a v h l =
    let e : 64 - v + v ≡ 64 = omega arith in
    let P : ℕ → Type 0 = λ k. 2 ^ k ≡ 2 ^ (64 - v) * 2 ^ v in
    let p : 2 ^ 64 ≡ 2 ^ (64 - v) * 2 ^ v = subst P e (pow-add 2 (64 - v) v) in
    let q : (a + 1) * 2 ^ v ≤ 2 ^ (64 - v) * 2 ^ v = grind arith in
    let r : a * 2 ^ v + 2 ^ v ≤ 2 ^ 64 = omega (arith, p, q) in
    (r, mod-eq_of_lt (omega (arith, r, pow_pos v)))

-- one copy more still fits, where as many as there are to be do
pub one_more_fits : (u k n x a : ℕ) → x ≡ rep u k a → 1 ≤ k → k < n → n * u ≤ 64 → a < 2 ^ u → x < 2 ^ (64 - u)
one_more_fits u k n x a e l m h f =
    let s : k * u + u ≤ n * u = omega (arith, mul-le-mul_right u m, suc-mul k u) in
    let b : rep u k a < 2 ^ (k * u) = rep_below u k a f in
    let p : 2 ^ (k * u) ≤ 2 ^ (64 - u) = pow-le-pow_right {n = 2} (omega arith) {i = k * u} {j = 64 - u} (omega (arith, s, h)) in
    omega (arith, e, b, p)

-- of two or more copies that fit in 64 bits together each is narrower than that
pub copy_narrow : (u k n : ℕ) → 1 ≤ u → 1 ≤ k → k < n → n * u ≤ 64 → u < 64
copy_narrow u k n o l m h =
    let s : 2 * u ≤ n * u = mul-le-mul_right u (omega arith) in
    omega arith
