use Rattle.std.proofs.Common.{arith}
use Rattle.pdl_net.specs.Growth.{Extends}
use Rattle.pdl_net.proofs.Keeps.{extends_trans}
use Rattle.pdl_net.proofs.KeptWidths.{width_kept}
use Rattle.pdl_tests_of_parts.proofs.OneBit.{squash_bits}
use Rattle.pdl_tests_of_parts.proofs.sides.squashes.emit_ports.Goals as goal

pub returns : goal.returns
returns c =
    let b = c.emit_bit.new.b in
    let m = c.emit_bit-2.new.b in
    let d = c.emit_bits.new.b in
    let y = c.in_ok-valid.ensures.extends in
    let x : Extends b d = extends_trans b m d c.in_ok-fails.ensures.extends y in
    let v = c.in_ok-valid.ensures.bits in
    record {
      stage = omega (arith, v.count, c.requires);
      valid = squash_bits d _ _ v;
      moves = width_kept b d _ 1 x c.in_ok-moves.ensures.bit;
      fails = width_kept m d _ 1 y c.in_ok-fails.ensures.bit;
    }
