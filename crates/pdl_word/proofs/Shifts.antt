-- Words moved by some places, and one word above another.
use Rattle.std.proofs.Common.{◌≡◌, ℕ, ◌+◌, ◌-◌, ◌*◌, ◌/◌, ◌%◌, ◌^◌, ◌<◌, ◌≤◌, refl, arith, subst, lt-ltb, le-ltb}
use Rattle.std.proofs.Math.Nat.{mod-eq_of_lt}
use Rattle.std.proofs.lemmas.Nat.{pow-add, pow_pos}
use Rattle.pdl_word.specs.Words.{widest, shl, shr}

-- a word shifted up by fewer than w places is multiplied by that power of two, modulo 2 ^ w
pub shl_within : (w a b : ℕ) → b < w → shl w a b ≡ a * 2 ^ b % 2 ^ w
unfolding shl
shl_within w a b h = rw (lt-ltb b w h) refl

-- nothing is left of a word shifted up by w places or more
pub shl_past : (w a b : ℕ) → w ≤ b → shl w a b ≡ 0
unfolding shl
shl_past w a b h = rw (le-ltb b w h) refl

-- a word shifted down by fewer than w places is divided by that power of two
pub shr_within : (w a b : ℕ) → b < w → shr w a b ≡ a / 2 ^ b
unfolding shr
shr_within w a b h = rw (lt-ltb b w h) refl

-- nothing is left of a word shifted down by w places or more
pub shr_past : (w a b : ℕ) → w ≤ b → shr w a b ≡ 0
unfolding shr
shr_past w a b h = rw (le-ltb b w h) refl

-- a word above v bits fits the widest word
pub shifted : (a v : ℕ) → v < widest → a < 2 ^ (widest - v) → (a * 2 ^ v + 2 ^ v ≤ 2 ^ widest) × (a * 2 ^ v % 2 ^ widest ≡ a * 2 ^ v)
shifted a v h l =
    let e : widest - v + v ≡ widest = omega arith in
    let P : ℕ → Type 0 = λ k. 2 ^ k ≡ 2 ^ (widest - v) * 2 ^ v in
    let p : 2 ^ widest ≡ 2 ^ (widest - v) * 2 ^ v = subst P e (pow-add 2 (widest - v) v) in
    let q : (a + 1) * 2 ^ v ≤ 2 ^ (widest - v) * 2 ^ v = grind arith in
    let r : a * 2 ^ v + 2 ^ v ≤ 2 ^ widest = omega (arith, p, q) in
    (r, mod-eq_of_lt (omega (arith, r, pow_pos v)))
