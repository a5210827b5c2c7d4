use Rattle.std.proofs.Common.{◌≤◌, ◌^◌, arith}
use Rattle.std.proofs.Math.Pow.{pow_mono}
use Rattle.pdl_lock_ring.proofs.youngest.emit_young.Goals as goal

pub overflow_sub-power : goal.overflow_sub-power
overflow_sub-power c =
    let le : c.args.k ≤ c.args.l.size = omega (arith, c.requires.within) in
    let h : 2 ^ c.args.k ≤ 2 ^ c.args.l.size = pow_mono le in
    omega (arith, h, c.power.ensures, c.power-2.ensures)
