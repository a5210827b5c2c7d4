-- Digits, one after the other.
use Rattle.std.proofs.Common.{◌≡◌, ℕ, ◌+◌, ◌*◌, ◌^◌, ◌<◌, ◌≤◌, ◌⊎◌, inl, inr, List, [], ◌∷◌, ◌++◌, take, length, get_or, Option, Some, None, refl, sym, ap, ◌∙◌, arith, subst}
use Rattle.std.proofs.Math.Nat.{le-mul_of_pos_right, mul-le-mul_right, pow-suc, pow-le-pow_right}
use Rattle.std.proofs.lemmas.Bool.{cases_lt}
use Rattle.std.proofs.lemmas.Bool.Decides.{nat_tests}
use Rattle.std.proofs.lemmas.List.{take_more}
use Rattle.std.proofs.lemmas.Option.{same_Some}
use Rattle.pdl_syntax_tokens.specs.Tokens.{digit_value, value_from, value_of, fitting}
use Rattle.pdl_syntax_tokens.specs.DigitValues.{with_digit}
use Rattle.pdl_word.specs.Words.{widest}

value_from-append : (base v : ℕ) (xs : List ℕ) (c : ℕ) → value_from base v (xs ++ c ∷ []) ≡ value_from base v xs * base + digit_value c
value_from-append base v [] c = refl
value_from-append base v (x ∷ xs) c = value_from-append base (v * base + digit_value x) xs c

fits : (v : ℕ) → v < 2 ^ widest → fitting v ≡ Some v
fits v h = grind (arith, nat_tests)

fits_not : (v : ℕ) → 2 ^ widest ≤ v → fitting v ≡ None
fits_not v h = grind (arith, nat_tests)

with_fitting : (base v c : ℕ) → 1 ≤ base → with_digit base (fitting v) c ≡ fitting (v * base + digit_value c)
with_fitting base v c h = go (cases_lt v (2 ^ widest))
  where
    go : (v < 2 ^ widest) ⊎ (2 ^ widest ≤ v) → with_digit base (fitting v) c ≡ fitting (v * base + digit_value c)
    go (inl lt) = rw (fits v lt) refl
    go (inr ge) = let k : v ≤ v * base = le-mul_of_pos_right v h in
        let d = digit_value c in
        rw (fits_not v ge) (sym (fits_not (v * base + d) (omega (arith, k, ge))))

-- a loop over the digits takes one more
pub digits_step : (base i : ℕ) (digits : List ℕ) (value : Option ℕ) → 1 ≤ base → i < length digits →
    value ≡ fitting (value_of base (take i digits)) → with_digit base value (get_or digits i 0) ≡ fitting (value_of base (take (i + 1) digits))
digits_step base i digits value h lt e =
    let c = get_or digits i 0 in
    let k : value_of base (take (i + 1) digits) ≡ value_of base (take i digits) * base + digit_value c =
    ap (value_of base) (take_more digits i 0 lt) ∙ value_from-append base 0 (take i digits) c in
    rw (e, k) (with_fitting base (value_of base (take i digits)) c h)

small_digit : (c : ℕ) → digit_value c ≤ 15
small_digit c = grind (arith, nat_tests)

power : (v d n p : ℕ) → d ≤ 15 → p ≡ 10 ^ n → (v * 10 + d + 2) * p ≤ (v + 2) * (p * 10)
power v d n p h e = let k : (v * 10 + d + 2) * p ≤ ((v + 2) * 10) * p = mul-le-mul_right p (omega (arith, h)) in
    let j : ((v + 2) * 10) * p ≡ (v + 2) * (p * 10) = grind arith in omega (arith, k, j)

value_bound : (v : ℕ) (xs : List ℕ) → value_from 10 v xs < (v + 2) * 10 ^ length xs
value_bound v [] = grind arith
value_bound v (x ∷ xs) = let k = value_bound (v * 10 + digit_value x) xs in
    let j = power v (digit_value x) (length xs) (10 ^ length xs) (small_digit x) refl in
    rw pow-suc (omega (arith, k, j))

below_ten : (xs : List ℕ) → length xs ≤ 10 → value_of 10 xs < 2 ^ 64
below_ten xs h =
    let k = value_bound 0 xs in
    let j : 10 ^ length xs ≤ 10 ^ 10 = pow-le-pow_right (omega arith) h in
    omega (arith, k, j)

-- ten digits fit
pub ten_digits : (xs : List ℕ) → length xs ≤ 10 → fitting (value_of 10 xs) ≡ Some (value_of 10 xs)
ten_digits xs h = fits (value_of 10 xs) (let k = below_ten xs h in omega arith)

-- and their value fits 64 bits
pub ten_small : (xs : List ℕ) (v : ℕ) → length xs ≤ 10 → Some v ≡ fitting (value_of 10 xs) → v < 2 ^ 64
ten_small xs v h e =
    let P : ℕ → Type 0 = λ n. n < 2 ^ 64 in
    subst P (sym (same_Some _ _ (e ∙ ten_digits xs h))) (below_ten xs h)
