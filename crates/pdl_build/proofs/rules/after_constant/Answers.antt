use Rattle.std.proofs.Common.{◌≡◌, ℕ, ◌<◌, ◌^◌, refl, subst, arith}
use Rattle.pdl_build.proofs.OneBit.{zero_less}
use Rattle.pdl_build.proofs.rules.after_constant.Goals as goal

pub returns-in-Lt : goal.returns-in-Lt
returns-in-Lt c = λ y h.
    let w : c.args.width ≡ 1 = omega (arith, c.if-width-eq1.true) in
    let v : c.args.value ≡ 0 = omega (arith, c.if-value-eq0.true) in
    let P : ℕ → Type 0 = λ n. y < 2 ^ n in
    rw (c.in-Lt.is, v, w) (refl, zero_less y (subst P w (h c.if-below.true)))
