use Rattle.std.proofs.Common.{◌^◌, ap, sym, ◌∙◌, arith}
use Rattle.pdl_pipe_beside.proofs.outside.address_bits.Goals as goal
use Rattle.pdl_word.proofs.Numbers.{same_power}

pub returns-clause-power : goal.returns-clause-power
returns-clause-power c =
    let e = same_power c.ilog2.result c.requires.bits c.args.mem.now.depth c.requires.depth c.ilog2.ensures.power_le c.ilog2.ensures.next_power_gt in
    ap (λ n. 2 ^ n) e ∙ sym c.requires.depth

pub returns-clause-low : goal.returns-clause-low
returns-clause-low c =
    let e = same_power c.ilog2.result c.requires.bits c.args.mem.now.depth c.requires.depth c.ilog2.ensures.power_le c.ilog2.ensures.next_power_gt in
    omega (arith, e, c.requires.some)
