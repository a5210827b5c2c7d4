use Rattle.std.proofs.Common.{◌≡◌, ◌+◌, ◌-◌, ◌*◌, ◌≤◌, None, Some, length, arith, rules}
use Rattle.pdl_asm.specs.Lines.{decimal_of}
use Rattle.pdl_asm.proofs.LastDigits.{no_tens, no_units, tens_and_units}
use Rattle.pdl_asm.proofs.digits.read_decimal.Goals as goal

pub returns-in_err-tens-clause-value : goal.returns-in_err-tens-clause-value
returns-in_err-tens-clause-value c =
    let ds = c.args.digits.now in
    let long = c.if-digits-le1.false in
    let n : decimal_of ds ≡ None = no_tens ds (length ds - 1) (omega (arith, long)) (omega (arith, long)) c.in_err-tens.ensures.value in
    search (rules, n)

pub returns-in_err-units-2-clause-value : goal.returns-in_err-units-2-clause-value
returns-in_err-units-2-clause-value c =
    let ds = c.args.digits.now in
    let long = c.if-digits-le1.false in
    let n : decimal_of ds ≡ None = no_units ds (length ds - 1) (omega (arith, long)) (omega (arith, long)) c.in_err-units-2.ensures.value in
    search (rules, n)

pub returns-clause-value : goal.returns-clause-value
returns-clause-value c =
    let ds = c.args.digits.now in
    let long = c.if-digits-le1.false in
    let tens = c.in_ok-tens.ensures.value in
    let units = c.in_ok-units-2.ensures.value in
    let n : decimal_of ds ≡ Some (10 * c.in_ok-tens.tens + c.in_ok-units-2.units) =
    tens_and_units ds (length ds - 1) c.in_ok-tens.tens c.in_ok-units-2.units (omega (arith, long)) (omega (arith, long)) tens.0 units.0 tens.1 units.1 in
    search (rules, n)
