-- Depths and the address bits that reach them.
use Rattle.std.proofs.Common.{◌≡◌, ℕ, suc, ◌+◌, ◌*◌, ◌^◌, ◌<◌, ◌≤◌, ◌%◌, Bool, true, false, eqb, refl, sym, ap, ◌∙◌, arith}
use Rattle.std.proofs.Math.Nat.{pow-succ'}
use Rattle.std.proofs.lemmas.Bool.Decides.{Decides-eqb}
use Rattle.std.proofs.Math.Pow.{pow_mono}
use Rattle.std.proofs.lemmas.Nat.{one_shl}
use Rattle.pdl_word.proofs.Numbers.{twice_power}

eqb-swap : (a b : ℕ) → eqb a b ≡ eqb b a
eqb-swap a b = go (eqb a b) (eqb b a) refl refl
  where
    go : (x y : Bool) → eqb a b ≡ x → eqb b a ≡ y → x ≡ y
    go true true h k = refl
    go false false h k = refl
    go true false h k = let e : a ≡ b = (Decides-eqb a b).0 h in let f = (Decides-eqb b a).1 (sym e) in cc
    go false true h k = let e : b ≡ a = (Decides-eqb b a).0 k in let f = (Decides-eqb a b).1 (sym e) in cc

-- a depth is compared with 1 moved up by b places in 64 bits as with 2^b, where b is below 64
pub shifted_out : (b d : ℕ) → b < 64 → eqb (1 * 2 ^ b % 2 ^ 64) d ≡ eqb d (2 ^ b)
shifted_out b d h = ap (λ x. eqb x d) (one_shl b 64 h) ∙ eqb-swap (2 ^ b) d

not_equal : (a b : ℕ) → a < b → false ≡ eqb a b
not_equal a b h = go (eqb a b) refl
  where
    go : (x : Bool) → eqb a b ≡ x → false ≡ x
    go false k = refl
    go true k = let e : a ≡ b = (Decides-eqb a b).0 k in absurd (omega arith)

-- no depth below 2^64 is one that 64 or more address bits reach
pub beyond : (b d : ℕ) → 64 ≤ b → d < 2 ^ 64 → false ≡ eqb d (2 ^ b)
beyond b d h l = let m : 2 ^ 64 ≤ 2 ^ b = pow_mono h in not_equal d (2 ^ b) (omega arith)

pub ruleset reached = (shifted_out, beyond)

-- a depth is one that b + 1 address bits reach just where it is twice the one that b bits reach
pub twice : (b d : ℕ) → eqb d (2 ^ (b + 1)) ≡ eqb d (2 * 2 ^ b)
twice b d = ap (eqb d) (twice_power b)

-- no depth below 2^32 is twice one that 32 or more address bits reach
pub too_deep : (b d : ℕ) → 32 ≤ b → d < 2 ^ 32 → false ≡ eqb d (2 * 2 ^ b)
too_deep b d h l = let m : 2 ^ 32 ≤ 2 ^ b = pow_mono h in not_equal d (2 * 2 ^ b) (omega arith)

pub ruleset doubled = (twice, too_deep)

-- 1 moved up by at most 16 places in 32 bits is that power of two
pub shifted : (b : ℕ) → b ≤ 16 → 1 * 2 ^ b % 2 ^ 32 ≡ 2 ^ b
shifted b h = one_shl b 32 (omega arith)
