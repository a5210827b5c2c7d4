-- Numbers that no field has.
use Rattle.std.proofs.Common.{◌≡◌, ℕ, ℤ, pos, negsuc, neg_ℤ, ◌-◌, ◌-ℤ◌, ◌^◌, ◌≤◌, ◌<◌, ◌≤ℤ◌, ◌<ℤ◌, inl, inr, arith, ap, ◌∙◌, Bool, true, false, None, Some, if◌then◌else◌, ltb, refl}
use Rattle.std.proofs.Math.Nat.{pow-le-pow_right}
use Rattle.std.proofs.lemmas.Bool.{le-ltb, ltb-true, ltb-false}
use Rattle.std.proofs.lemmas.Int.{ints}
use Rattle.pdl_asm.specs.Numbers.{IsFar, as_word}
use Rattle.pdl_asm.specs.Values.{signed_field, unsigned_field}
use Rattle.pdl_word.specs.Words.{widest}

powers : (i : ℕ) → i ≤ widest → 2 ^ i ≤ 2 ^ widest
powers i h = pow-le-pow_right (omega arith) {i = i} {j = widest} h

too_many : (n : ℕ) → (if ltb n (2 ^ widest) then Some n else None) ≡ None → 2 ^ widest ≤ n
too_many n e = at (ltb n (2 ^ widest)) refl e
  where
    at : (b : Bool) → ltb n (2 ^ widest) ≡ b → (if b then Some n else None) ≡ None → 2 ^ widest ≤ n
    at true f e = cc
    at false f e = ltb-false n (2 ^ widest) f

-- a number with more bits than the widest word is in no field
pub far_signed : (f : ℕ) (z : ℤ) → f ≤ widest → IsFar z → signed_field f z ≡ None
far_signed f (pos n) h (inl l) = absurd (omega (arith, ints, l))
far_signed f (pos n) h (inr g) =
    let p : 2 ^ (f - 1) ≤ 2 ^ widest = powers (f - 1) (omega (arith, h)) in
    let k : 2 ^ (f - 1) ≤ n = omega (arith, ints, g, p) in
    ap (λ b. if b then Some n else None) (le-ltb n (2 ^ (f - 1)) k)
far_signed f (negsuc n) h (inl l) =
    let p : 2 ^ (f - 1) ≤ 2 ^ widest = powers (f - 1) (omega (arith, h)) in
    let k : 2 ^ (f - 1) ≤ n = omega (arith, ints, l, p) in
    ap (λ b. if b then Some (2 ^ f - 1 - n) else None) (le-ltb n (2 ^ (f - 1)) k)
far_signed f (negsuc n) h (inr g) = absurd (omega (arith, ints, g))

-- a number that is no word is in no field without a sign
pub unsigned_none : (f : ℕ) (z : ℤ) → f ≤ widest → as_word z ≡ None → unsigned_field f z ≡ None
unsigned_none f (pos n) h e =
    let k : 2 ^ f ≤ n = omega (arith, powers f h, too_many n e) in
    ap (λ b. if b then Some n else None) (le-ltb n (2 ^ f) k)
unsigned_none f (negsuc n) h e = refl

-- a number from 0 on that is no word is in no field with one
pub signed_none : (f : ℕ) (z : ℤ) → f ≤ widest → (z <ℤ pos 0 → ⊥) → as_word z ≡ None → signed_field f z ≡ None
signed_none f (pos n) h low e =
    let k : 2 ^ (f - 1) ≤ n = omega (arith, powers (f - 1) (omega (arith, h)), too_many n e) in
    ap (λ b. if b then Some n else None) (le-ltb n (2 ^ (f - 1)) k)
signed_none f (negsuc n) h low e = absurd (low (omega (arith, ints)))

-- nor is one below 0 of which the complement is none
pub signed_below : (f : ℕ) (z y : ℤ) → f ≤ widest → z <ℤ pos 0 → y ≡ neg_ℤ (pos 1) -ℤ z → as_word y ≡ None → signed_field f z ≡ None
signed_below f (pos n) y h low s e = absurd (omega (arith, ints, low))
signed_below f (negsuc n) (pos m) h low s e =
    let same : m ≡ n = omega (arith, ints, s) in
    let k : 2 ^ (f - 1) ≤ n = omega (arith, powers (f - 1) (omega (arith, h)), too_many m e, same) in
    ap (λ b. if b then Some (2 ^ f - 1 - n) else None) (le-ltb n (2 ^ (f - 1)) k)
signed_below f (negsuc n) (negsuc m) h low s e = absurd (omega (arith, ints, s))

-- a word of one bit less is at most the largest one
pub half_below : (f h n o : ℕ) → h ≡ f - 1 → ltb n (2 ^ h) ≡ true → o ≡ 2 ^ f - 1 → n ≤ o
half_below f h n o e t s =
    let p : 2 ^ h ≤ 2 ^ f = pow-le-pow_right (omega arith) {i = h} {j = f} (omega (arith, e)) in
    omega (arith, ltb-true n (2 ^ h) t, p, s)
