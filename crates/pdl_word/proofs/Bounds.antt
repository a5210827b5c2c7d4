-- The result of each operation is below 2 ^ (its width).
use Rattle.std.proofs.Common.{◌≡◌, ℕ, zero, suc, ◌+◌, ◌-◌, ◌*◌, ◌%◌, ◌^◌, ◌<◌, ◌≤◌, arith, sym, subst, Bool, true, false, if◌then◌else◌, nat_lt, ◌==◌, not, inl, inr, lit<}
use Rattle.std.proofs.Math.Nat.{mod-lt, suc-mul, mul-le-mul_right}
use Rattle.std.proofs.lemmas.Bool.{cases_lt}
use Rattle.std.proofs.lemmas.Nat.{pow_pos, pow-add, shr_le, or_lt, xor_lt, and_le_l}
use Rattle.pdl_word.specs.Words.{widest, bit, add, sub, mul, complement, and, or, xor, equal, differ, less, lts, shl, shr, slice, cat, zext, sext, mux, rep}
use Rattle.pdl_word.proofs.Shifts.{shl_within, shl_past, shr_within, shr_past}
use Rattle.pdl_word.proofs.Signs.{wider}

mod_below_pow : (n w : ℕ) → n % 2 ^ w < 2 ^ w
mod_below_pow n w = mod-lt n (pow_pos w)

bit_below : (b : Bool) → bit b < 2 ^ 1
bit_below true = lit< tt
bit_below false = lit< tt

-- a sum is below 2 ^ w
pub add_below : (w a b : ℕ) → add w a b < 2 ^ w
unfolding add
add_below w a b = mod_below_pow _ w

-- a difference is below 2 ^ w
pub sub_below : (w a b : ℕ) → sub w a b < 2 ^ w
unfolding sub
sub_below w a b = mod_below_pow _ w

-- a product is below 2 ^ w
pub mul_below : (w a b : ℕ) → mul w a b < 2 ^ w
unfolding mul
mul_below w a b = mod_below_pow _ w

-- the complement of a word is below 2 ^ w
pub complement_below : (w a : ℕ) → complement w a < 2 ^ w
unfolding complement
complement_below w a = omega (arith, pow_pos w)

-- the bitwise and of a word of w bits with any other is below 2 ^ w
pub and_below : (w a b : ℕ) → a < 2 ^ w → and a b < 2 ^ w
unfolding and
and_below w a b h = omega (arith, and_le_l a b)

-- the bitwise or of two words of w bits is below 2 ^ w
pub or_below : (w a b : ℕ) → a < 2 ^ w → b < 2 ^ w → or a b < 2 ^ w
unfolding or
or_below w a b h k = or_lt w a b h k

-- the bitwise exclusive or of two words of w bits is below 2 ^ w
pub xor_below : (w a b : ℕ) → a < 2 ^ w → b < 2 ^ w → xor a b < 2 ^ w
unfolding xor
xor_below w a b h k = xor_lt w a b h k

-- the bit of equality is below 2
pub equal_below : (a b : ℕ) → equal a b < 2 ^ 1
unfolding equal
equal_below a b = bit_below (a == b)

-- the bit of difference is below 2
pub differ_below : (a b : ℕ) → differ a b < 2 ^ 1
unfolding differ
differ_below a b = bit_below (not (a == b))

-- the bit of order is below 2
pub less_below : (a b : ℕ) → less a b < 2 ^ 1
unfolding less
less_below a b = bit_below (nat_lt a b)

-- the bit of signed order is below 2
pub lts_below : (w a b : ℕ) → lts w a b < 2 ^ 1
unfolding lts
lts_below w a b = bit_below _

-- a word shifted up is below 2 ^ w
pub shl_below : (w a b : ℕ) → shl w a b < 2 ^ w
shl_below w a b = elim (cases_lt b w) [
  | inl h ↦ rw (shl_within w a b h) (mod_below_pow (a * 2 ^ b) w)
  | inr h ↦ rw (shl_past w a b h) (pow_pos w)
]

-- a word of w bits shifted down is below 2 ^ w
pub shr_below : (w a b : ℕ) → a < 2 ^ w → shr w a b < 2 ^ w
shr_below w a b l = elim (cases_lt b w) [
  | inl h ↦ rw (shr_within w a b h) (omega (arith, shr_le a b))
  | inr h ↦ rw (shr_past w a b h) (pow_pos w)
]

-- a slice from high down to low is below 2 ^ (high + 1 - low)
pub slice_below : (high low a : ℕ) → slice high low a < 2 ^ (high + 1 - low)
unfolding slice
slice_below high low a = mod_below_pow _ (high + 1 - low)

-- a word of u bits above one of v bits is below 2 ^ (u + v)
pub cat_below : (u v a b : ℕ) → a < 2 ^ u → b < 2 ^ v → cat v a b < 2 ^ (u + v)
unfolding cat
cat_below u v a b h k =
    let q : (a + 1) * 2 ^ v ≤ 2 ^ u * 2 ^ v = grind arith in
    omega (arith, q, pow-add 2 u v)

-- a word of w bits with zeros above is below 2 ^ n, where w is at most n
pub zext_below : (w n a : ℕ) → w ≤ n → a < 2 ^ w → zext a < 2 ^ n
unfolding zext
zext_below w n a h k = omega (arith, wider w n h)

-- a word with its sign above, n bits together, is below 2 ^ n
pub sext_below : (w n a : ℕ) → sext w n a < 2 ^ n
unfolding sext
sext_below w n a = mod_below_pow _ n

-- the choice of one of two words of w bits is below 2 ^ w
pub mux_below : (w c a b : ℕ) → a < 2 ^ w → b < 2 ^ w → mux c a b < 2 ^ w
unfolding mux
mux_below w c a b h k = elim (c == 1) as (λ t. (if t then a else b) < 2 ^ w) [ true ↦ h | false ↦ k ]

-- what `cat` asks of its higher word, from the two widths
pub fits_above : (u v a : ℕ) → u + v ≤ widest → a < 2 ^ u → a < 2 ^ (widest - v)
fits_above u v a h k =
    let e : u ≤ widest - v = omega arith in
    omega (arith, wider u (widest - v) e)

-- k copies of a word of u bits are below 2 ^ (k * u)
pub rep_below : (u k a : ℕ) → a < 2 ^ u → rep u k a < 2 ^ (k * u)
unfolding rep cat
rep_below u zero a h = pow_pos (zero * u)
rep_below u (suc k) a h =
    let e : k * u + u ≡ suc k * u = sym (suc-mul k u) in
    let P : ℕ → Type 0 = λ n. rep u k a * 2 ^ u + a < 2 ^ n in
    subst P e (cat_below (k * u) u (rep u k a) a (rep_below u k a h) h)

-- one copy more still fits, where as many as there are to be do
pub one_more_fits : (u k n x a : ℕ) → x ≡ rep u k a → 1 ≤ k → k < n → n * u ≤ widest → a < 2 ^ u → x < 2 ^ (widest - u)
one_more_fits u k n x a e l m h f =
    let s : k * u + u ≤ n * u = omega (arith, mul-le-mul_right u m, suc-mul k u) in
    rw e (fits_above (k * u) u (rep u k a) (omega (arith, s)) (rep_below u k a f))

-- of two or more copies that fit in the widest word together each is narrower than that
pub copy_narrow : (u k n : ℕ) → 1 ≤ u → 1 ≤ k → k < n → n * u ≤ widest → u < widest
copy_narrow u k n o l m h =
    let s : 2 * u ≤ n * u = mul-le-mul_right u (omega arith) in
    omega arith
