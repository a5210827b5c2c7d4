use Rattle.std.proofs.Common.{◌≡◌, ℕ, ◌<◌, ◌^◌, refl, subst, arith, ◌∙◌}
use Rattle.std.proofs.lemmas.Nat.{pow_pos}
use Rattle.pdl_word.proofs.Laws.{and_zero, and_ones, or_zero, or_ones, xor_zero, add_zero, sub_zero, shl_zero, shr_zero}
use Rattle.pdl_word.proofs.Shifts.{shl_past, shr_past}
use Rattle.pdl_build.proofs.OneBit.{equal_one, equal_zero, differ_zero, differ_one}
use Rattle.pdl_build.proofs.rules.on_constant.Goals as goal

pub returns-in-And : goal.returns-in-And
returns-in-And c = λ x h. let v : c.args.value ≡ 0 = omega (arith, c.if-value-eq0.true) in rw (c.in-And.is, v) (refl, and_zero x)

pub returns-in-And-2 : goal.returns-in-And-2
returns-in-And-2 c = λ x h.
    let v = c.if-value-ones.true ∙ c.mask-ones.ensures in
    rw (c.in-And.is, v) (refl, and_ones c.args.width x (h c.if-below.true))

pub returns-in-Or : goal.returns-in-Or
returns-in-Or c = λ x h. let v : c.args.value ≡ 0 = omega (arith, c.if-value-eq0-2.true) in rw (c.in-Or.is, v) (refl, or_zero x)

pub returns-in-Or-2 : goal.returns-in-Or-2
returns-in-Or-2 c = λ x h.
    let v = c.if-value-ones-2.true ∙ c.mask-ones.ensures in
    rw (c.in-Or.is, v) (refl, or_ones c.args.width x (h c.if-below-2.true))

pub returns-in-Xor : goal.returns-in-Xor
returns-in-Xor c = λ x h. let v : c.args.value ≡ 0 = omega (arith, c.if-value-eq0-3.true) in rw (c.in-Xor.is, v) (refl, xor_zero x)

pub returns-in-Add : goal.returns-in-Add
returns-in-Add c = λ x h. let v : c.args.value ≡ 0 = omega (arith, c.if-value-eq0-4.true) in
    rw (c.in-Add.is, v) (refl, add_zero c.args.width x (h c.if-below-3.true))

pub returns-in-Sub : goal.returns-in-Sub
returns-in-Sub c = λ x h. let v : c.args.value ≡ 0 = omega (arith, c.if-value-eq0-5.true) in
    rw (c.in-Sub.is, v) (refl, sub_zero c.args.width x (h c.if-below-4.true))

pub returns-in-Shl : goal.returns-in-Shl
returns-in-Shl c = λ x h. let v : c.args.value ≡ 0 = omega (arith, c.if-value-eq0-6.true) in
    rw (c.in-Shl.is, v) (refl, shl_zero c.args.width x c.requires.low (h c.if-below-5.true))

pub returns-in-Shl-2 : goal.returns-in-Shl-2
returns-in-Shl-2 c =
    λ x h. rw c.in-Shl.is (pow_pos c.args.width, shl_past c.args.width x c.args.value (omega (arith, c.if-value-bits.true, c.from-bits.ensures)))

pub returns-in-Shr : goal.returns-in-Shr
returns-in-Shr c = λ x h. let v : c.args.value ≡ 0 = omega (arith, c.if-value-eq0-7.true) in rw (c.in-Shr.is, v) (refl, shr_zero c.args.width x c.requires.low)

pub returns-in-Shr-2 : goal.returns-in-Shr-2
returns-in-Shr-2 c =
    λ x h. rw c.in-Shr.is (pow_pos c.args.width, shr_past c.args.width x c.args.value (omega (arith, c.if-value-bits-2.true, c.from-bits.ensures)))

pub returns-in-Eq : goal.returns-in-Eq
returns-in-Eq c = λ x h.
    let w : c.args.width ≡ 1 = omega (arith, c.if-width-eq1.true) in
    let v : c.args.value ≡ 1 = omega (arith, c.if-value-eq1.true) in
    let P : ℕ → Type 0 = λ n. x < 2 ^ n in
    rw (c.in-Eq.is, v, w) (refl, equal_one x (subst P w (h c.if-below-6.true)))

pub returns-in-Eq-2 : goal.returns-in-Eq-2
returns-in-Eq-2 c = λ x h.
    let w : c.args.width ≡ 1 = omega (arith, c.if-width-eq1-2.true) in
    let v : c.args.value ≡ 0 = omega (arith, c.if-value-eq0-8.true) in
    let P : ℕ → Type 0 = λ n. x < 2 ^ n in
    rw (c.in-Eq.is, v, w) (refl, equal_zero x (subst P w (h c.if-below-7.true)))

pub returns-in-Ne : goal.returns-in-Ne
returns-in-Ne c = λ x h.
    let w : c.args.width ≡ 1 = omega (arith, c.if-width-eq1-3.true) in
    let v : c.args.value ≡ 0 = omega (arith, c.if-value-eq0-9.true) in
    let P : ℕ → Type 0 = λ n. x < 2 ^ n in
    rw (c.in-Ne.is, v, w) (refl, differ_zero x (subst P w (h c.if-below-8.true)))

pub returns-in-Ne-2 : goal.returns-in-Ne-2
returns-in-Ne-2 c = λ x h.
    let w : c.args.width ≡ 1 = omega (arith, c.if-width-eq1-4.true) in
    let v : c.args.value ≡ 1 = omega (arith, c.if-value-eq1-2.true) in
    let P : ℕ → Type 0 = λ n. x < 2 ^ n in
    rw (c.in-Ne.is, v, w) (refl, differ_one x (subst P w (h c.if-below-9.true)))
