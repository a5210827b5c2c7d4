use Rattle.pdl_net.specs.Growth.{Extends}
use Rattle.pdl_port.specs.Laws.{HasBits}
use Rattle.pdl_tests_of_parts.proofs.sides.bits.emit_bits.Given as goal

abbrev pub invariant-loop-k : goal.invariant-loop-k
invariant-loop-k l = record {
  extends : Extends l.fn.b l.b;
  bits : HasBits l.b l.nets l._k;
}
