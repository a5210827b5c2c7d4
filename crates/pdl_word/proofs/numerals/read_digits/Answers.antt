use Rattle.std.proofs.Common.{◌≡◌, ◌^◌, ◌<◌, ◌≤◌, arith, length, subst}
use Rattle.std.proofs.Math.Nat.{pow-le-pow_right}
use Rattle.pdl_word.proofs.numerals.read_digits.Goals as goal
use Rattle.pdl_word.proofs.Numbers.{next_below, next_fits}
use Rattle.pdl_word.proofs.Digits.{digits_next}

pub overflow_mul-number : goal.overflow_mul-number
overflow_mul-number c =
    omega (arith, next_fits _ _ _ _ _ c.loop-byte.invariant.below c.in_ok-digit.ensures.2 (omega arith) c.requires.room)

pub overflow_add-number : goal.overflow_add-number
overflow_add-number c =
    omega (arith, next_fits _ _ _ _ _ c.loop-byte.invariant.below c.in_ok-digit.ensures.2 (omega arith) c.requires.room)

pub loop-byte-preserved : goal.loop-byte-preserved
loop-byte-preserved c =
    let f =
    digits_next _ _ _ _ _ c.loop-byte-test.true c.loop-byte.invariant.digits c.loop-byte.invariant.value c.in_ok-digit.ensures.0 c.in_ok-digit.ensures.1 in
    record {
      digits = f.0;
      value = f.1;
      below = next_below _ _ _ _ c.loop-byte.invariant.below c.in_ok-digit.ensures.2;
    }

pub returns-clause-below : goal.returns-clause-below
returns-clause-below c =
    let p : c.args.base ^ length c.args.digits.now ≤ c.args.base ^ c.args.most = pow-le-pow_right (omega (arith, c.requires.low)) (omega arith) in
    let q : c.loop-byte.byte-index ≡ length c.args.digits.now = omega arith in
    let r : c.loop-byte.number < c.args.base ^ length c.args.digits.now = subst (λ n. c.loop-byte.number < c.args.base ^ n) q c.loop-byte.invariant.below in
    omega (arith, p, r)
