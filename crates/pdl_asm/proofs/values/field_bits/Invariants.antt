use Rattle.std.proofs.Common.{◌≡◌, ◌≤◌, take}
use Rattle.pdl_asm.specs.Values.{field_bits}
use Rattle.pdl_asm.proofs.values.field_bits.Given as goal

-- those so far are counted
abbrev pub invariant-loop-bit : goal.invariant-loop-bit
invariant-loop-bit l = record {
  value : l.count ≡ field_bits (take l.bit-index l.bits) l.letter;
  few : l.count ≤ l.bit-index;
}
