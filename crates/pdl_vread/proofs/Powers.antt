-- A number with one bit that is set is a power of two.
use Rattle.std.proofs.Common.{◌≡◌, ◌⊎◌, inl, inr, ℕ, zero, suc, ◌*◌, ◌/◌, ◌%◌, ◌^◌, ◌<◌, ◌≤◌, true, ◌&&◌, leb, refl, sym, ap, ◌∙◌, subst, arith}
use Rattle.std.proofs.Math.Nat.{pow-succ'}
use Rattle.std.proofs.Math.Pow.{pow_mono}
use Rattle.std.proofs.lemmas.Bool.{and_parts, leb-true, eqb-true, cases_lt, cases_eq}
use Rattle.std.specs.Int.{is_power_of_two}
use lib.Count.{ones, ones_step}
use Rattle.pdl_net.specs.Well.{IsDepth}
use Rattle.pdl_vread_rules.specs.Widths.{is_depth}

no_ones : (k n : ℕ) → n < 2 ^ k → ones n ≡ 0 → n ≡ 0
no_ones zero n h e = omega arith
no_ones (suc k) n h e =
    let p = pow-succ' 2 k in
    let s = ones_step n in
    let half : n / 2 < 2 ^ k = omega arith in
    let bit : n % 2 ≡ 0 = omega arith in
    let rest : ones (n / 2) ≡ 0 = omega arith in
    let i = no_ones k (n / 2) half rest in
    omega arith

-- a power of two below another one
record Power (n : ℕ) : Type 0 where
  bits : ℕ
  same : n ≡ 2 ^ bits

no_bits : ones 0 ≡ 0
unfolding ones
no_bits = refl

one_bit : (k n : ℕ) → n < 2 ^ k → ones n ≡ 1 → Power n
one_bit zero n h e =
    let i : n ≡ 0 = omega arith in
    let j : ones n ≡ ones 0 = ap ones i in
    let z : ones 0 ≡ 0 = no_bits in
    absurd (omega arith)
one_bit (suc k) n h e = go (λ m l i. one_bit k m l i) (cases_eq (n % 2) 0)
  where
    go : ((m : ℕ) → m < 2 ^ k → ones m ≡ 1 → Power m) → (n % 2 ≡ 0) ⊎ (n % 2 ≡ 0 → ⊥) → Power n
    go more (inl i) =
        let p = pow-succ' 2 k in
        let s = ones_step n in
        let half : n / 2 < 2 ^ k = omega arith in
        let rest : ones (n / 2) ≡ 1 = omega arith in
        let q = more (n / 2) half rest in
        let t : n ≡ 2 * (n / 2) = omega arith in
        record { bits = suc q.bits; same = t ∙ (ap (λ z. 2 * z) q.same ∙ sym (pow-succ' 2 q.bits)) }
    go more (inr i) =
        let p = pow-succ' 2 k in
        let s = ones_step n in
        let half : n / 2 < 2 ^ k = omega arith in
        let b : n % 2 ≡ 1 = omega arith in
        let rest : ones (n / 2) ≡ 0 = omega arith in
        let q = no_ones k (n / 2) half rest in
        record { bits = 0; same = omega arith }

bits_low : (b : ℕ) → 2 ≤ 2 ^ b → 1 ≤ b
bits_low zero l = omega arith
bits_low (suc b) l = omega arith

bits_high : (b : ℕ) → 2 ^ b ≤ 131072 → b ≤ 17
bits_high b l = go (cases_lt 17 b)
  where
    go : (17 < b) ⊎ (b ≤ 17) → b ≤ 17
    go (inl k) = let m : 2 ^ 18 ≤ 2 ^ b = pow_mono {i = 18} {j = b} (omega arith) in omega arith
    go (inr k) = k

-- a depth that passes the test of V3 is one that an array may have
pub depth_is : (d : ℕ) → is_depth d ≡ true → IsDepth d
depth_is d h =
    let p = and_parts (leb 2 d) (leb d 131072 && is_power_of_two d) h in
    let q = and_parts (leb d 131072) (is_power_of_two d) p.1 in
    let low : 2 ≤ d = leb-true 2 d p.0 in
    let high : d ≤ 131072 = leb-true d 131072 q.0 in
    let e : ones d ≡ 1 = eqb-true (ones d) 1 q.1 in
    let r = one_bit 18 d (omega arith) e in
    record {
      bits = r.bits;
      low = bits_low r.bits (subst (λ z. 2 ≤ z) r.same low);
      high = bits_high r.bits (subst (λ z. z ≤ 131072) r.same high);
      power = r.same;
    }
