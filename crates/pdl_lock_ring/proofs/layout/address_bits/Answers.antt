use Rattle.std.proofs.Common.{◌^◌, ap, sym, ◌∙◌, arith}
use Rattle.pdl_lock_ring.proofs.layout.address_bits.Goals as goal
use Rattle.pdl_word.proofs.Numbers.{same_power}

pub returns-clause-power : goal.returns-clause-power
returns-clause-power c =
    let e = same_power c.ilog2.result c.requires.bits c.args.depth c.requires.power c.ilog2.ensures.power_le c.ilog2.ensures.next_power_gt in
    ap (λ n. 2 ^ n) e ∙ sym c.requires.power

pub returns-clause-low : goal.returns-clause-low
returns-clause-low c =
    let e = same_power c.ilog2.result c.requires.bits c.args.depth c.requires.power c.ilog2.ensures.power_le c.ilog2.ensures.next_power_gt in
    omega (arith, e, c.requires.low)

pub returns-clause-high : goal.returns-clause-high
returns-clause-high c =
    let e = same_power c.ilog2.result c.requires.bits c.args.depth c.requires.power c.ilog2.ensures.power_le c.ilog2.ensures.next_power_gt in
    omega (arith, e, c.requires.high)
