-- Whether a value fits a width, by a shift.
use Rattle.std.proofs.Common.{◌≡◌, ℕ, ◌*◌, ◌/◌, ◌^◌, ◌<◌, ◌≤◌, false, not, nat_eq, nat_le, ◌⊎◌, inl, inr, ⊎_elim, Some, Option, refl, sym, ◌∙◌, subst, arith}
use Rattle.std.proofs.Math.Nat.{div-eq_of_lt, div-lt_iff_lt-mul, one-le-pow}
use Rattle.std.proofs.Math.Pow.{pow_mono}
use Rattle.std.proofs.lemmas.Bool.{cases_lt}
use Rattle.std.proofs.lemmas.Bool.Decides.{eqb_tells, leb_tells}
use Rattle.pdl_semantics.specs.Tree.{Literal}
use Rattle.pdl_rules.specs.Widths.{is_too_large}
use Rattle.pdl_word.specs.Words.{widest}

-- a quotient by a power is 0 exactly where the number is below it
parted : (v w : ℕ) → ((v < 2 ^ w) × (v / 2 ^ w ≡ 0)) ⊎ ((2 ^ w ≤ v) × (1 ≤ v / 2 ^ w))
parted v w = ⊎_elim (λ h. inl (h, div-eq_of_lt h)) (λ h. inr (h, above h)) (cases_lt v (2 ^ w))
  where
    above : 2 ^ w ≤ v → 1 ≤ v / 2 ^ w
    above h =
        let positive : 1 ≤ 2 ^ w = one-le-pow w 2 (omega arith) in
        let small : v / 2 ^ w < 1 → v < 1 * 2 ^ w = (div-lt_iff_lt-mul {k = 2 ^ w} {x = v} {y = 1} positive).0 in
        ⊎_elim (λ s. absurd (omega (arith, small s))) (λ g. g) (cases_lt (v / 2 ^ w) 1)

quotient : (v w : ℕ) → not (nat_eq (v / 2 ^ w) 0) ≡ nat_le (2 ^ w) v
quotient v w = grind (arith, eqb_tells (v / 2 ^ w) 0, leb_tells (2 ^ w) v, parted v w)

above_all : (v w : ℕ) → widest ≤ w → v < 2 ^ widest → false ≡ nat_le (2 ^ w) v
above_all v w h k = let p = pow_mono {i = widest} {j = w} h in grind (arith, leb_tells (2 ^ w) v, p)

large_is : (l : Literal) (v : ℕ) → l.value ≡ Some v → is_too_large l ≡ nat_le (2 ^ l.width) v
large_is l v e = let P : Option ℕ → Type 0 = λ o. is_too_large (record l { value = o }) ≡ nat_le (2 ^ l.width) v in subst P (sym e) refl

-- a literal is too large just where its value, shifted down by its width, isn't 0
pub large_shifted : (l : Literal) (v : ℕ) → l.value ≡ Some v → not (nat_eq (v / 2 ^ l.width) 0) ≡ is_too_large l
large_shifted l v e = quotient v l.width ∙ sym (large_is l v e)

-- a width of widest or more, which each value fits
pub large_never : (l : Literal) (v : ℕ) → l.value ≡ Some v → widest ≤ l.width → v < 2 ^ widest → false ≡ is_too_large l
large_never l v e h k = above_all v l.width h k ∙ sym (large_is l v e)
