-- Numbers and their powers.
use Rattle.std.proofs.Common.{◌≡◌, refl, subst, ℕ, ◌+◌, ◌*◌, ◌^◌, ◌<◌, ◌≤◌, ◌==◌, true, add-one, arith, ◌-◌, sym, ap, ◌∙◌, ⊎_elim}
use Rattle.std.proofs.lemmas.Bool.{eq-eqb, cases_lt}
use Rattle.std.proofs.Math.Nat.{pow-suc, pow-le-pow_right, mul-le-mul_right, pow-succ'}
use Rattle.std.proofs.lemmas.Nat.{pow_pos, pow-add}

-- a number passes the test of equality with itself
pub eqb_self : (k : ℕ) → (k == k) ≡ true
eqb_self k = eq-eqb k k refl

-- a word of m bits is one of n bits, where m and n are equal
pub as_wide : (v m n : ℕ) → m ≡ n → v < 2 ^ m → v < 2 ^ n
as_wide v m n e h = let P : ℕ → Type 0 = λ w. v < 2 ^ w in subst P e h

-- a number below base ^ i with one digit more is below base ^ (i + 1)
pub next_below : (base i v d : ℕ) → v < base ^ i → d < base → v * base + d < base ^ (i + 1)
next_below base i v d h k =
    let p : (v + 1) * base ≤ base ^ i * base = mul-le-mul_right base (omega arith) in
    let q : base ^ (i + 1) ≡ base ^ i * base = rw (add-one) (pow-suc base i) in
    omega (arith, p, q)

-- a number of fewer digits than the most, with a digit more, fits in 128 bits, where the most do
pub next_fits : (base most i v d : ℕ) → v < base ^ i → d < base → i < most → base ^ most ≤ 2 ^ 128 → v * base + d < 2 ^ 128
next_fits base most i v d h k l room =
    let p : base ^ (i + 1) ≤ base ^ most = pow-le-pow_right (omega arith) (omega arith) in
    omega (arith, next_below base i v d h k, p)

-- twice a power of two is at most each greater one
pub less_power : (a b : ℕ) → a < b → 2 * 2 ^ a ≤ 2 ^ b
less_power a b h =
    let d = b - (a + 1) in
    let e : a + 1 + d ≡ b = omega (arith, h) in
    let p : 2 ^ b ≡ 2 ^ (a + 1) * 2 ^ d = ap (λ n. 2 ^ n) (sym e) ∙ pow-add 2 (a + 1) d in
    let q : 2 * 2 ^ a ≡ 2 ^ (a + 1) = omega (arith, pow-add 2 a 1) in
    grind (arith, p, q, pow_pos d)

-- a power of two that is not above another, which is below twice it
pub same_power : (r b d : ℕ) → d ≡ 2 ^ b → 2 ^ r ≤ d → d < 2 * 2 ^ r → r ≡ b
same_power r b d e low high = ⊎_elim
    (λ (h : r < b). absurd (omega (arith, less_power r b h)))
    (λ (h : b ≤ r). ⊎_elim
    (λ (g : b < r). absurd (omega (arith, less_power b r g)))
    (λ (g : r ≤ b). omega arith)
    (cases_lt b r))
    (cases_lt r b)

-- what holds of the first k places and of the next one
pub upto : (P : ℕ → Type 0) (k : ℕ) → P k → ((j : ℕ) → j < k → P j) → (j : ℕ) → j < k + 1 → P j
upto P k here rest j lt = ⊎_elim (λ (h : j < k). rest j h) (λ (h : k ≤ j). let e : k ≡ j = omega arith in subst P e here) (cases_lt j k)

-- the next power of two is twice as much
pub twice_power : (n : ℕ) → 2 ^ (n + 1) ≡ 2 * 2 ^ n
twice_power n = ap (λ k. 2 ^ k) (add-one n) ∙ pow-succ' 2 n
