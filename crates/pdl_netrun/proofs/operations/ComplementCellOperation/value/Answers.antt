use Rattle.std.proofs.Common.{arith}
use Rattle.pdl_netrun.proofs.Bits.{complemented}
use Rattle.pdl_netrun.proofs.operations.ComplementCellOperation.value.Goals as goal

pub overflow_sub-result : goal.overflow_sub-result
overflow_sub-result c =
    let e = c.first.ensures in
    let l = (complemented _ _ _ c.requires.mask c.requires.high c.requires.fits).0 in
    omega (arith, e, l)
