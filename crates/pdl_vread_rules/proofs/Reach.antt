-- Address bits that reach beyond every depth.
use Rattle.std.proofs.Common.{◌≡◌, ℕ, ◌^◌, ◌<◌, ◌≤◌, Bool, true, false, eqb, refl, arith}
use Rattle.std.proofs.Math.Pow.{pow_mono}
use Rattle.std.proofs.lemmas.Bool.Decides.{Decides-eqb}

-- 64 or more address bits reach no depth below 2^64 exactly
pub beyond : (w d : ℕ) → 64 ≤ w → d < 2 ^ 64 → false ≡ eqb (2 ^ w) d
beyond w d h l = go (eqb (2 ^ w) d) refl
  where
    go : (x : Bool) → eqb (2 ^ w) d ≡ x → false ≡ x
    go false k = refl
    go true k =
        let m : 2 ^ 64 ≤ 2 ^ w = pow_mono h in
        let e : 2 ^ w ≡ d = (Decides-eqb (2 ^ w) d).0 k in
        absurd (omega arith)
