use Rattle.std.proofs.Common.{◌<◌, length, arith}
use Rattle.pdl_machine.proofs.Bits.{bits_more}
use Rattle.pdl_machine.proofs.replies.put_bits.Goals as goal

pub loop-i-preserved : goal.loop-i-preserved
loop-i-preserved c =
    let now = c.loop-i.replies in
    let same = c.loop-i.auto.replies in
    let less : c.loop-i.i < length now = omega arith in
    bits_more now c.loop-i.i c.loop-i.left _ less c.loop-i.invariant
