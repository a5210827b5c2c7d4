use Rattle.std.proofs.Common.{◌≡◌, ◌++◌, drop}
use Rattle.pdl_asm_table.specs.Documents.{text_without_spaces}
use Rattle.pdl_asm_table.proofs.insns.without_spaces.Given as goal

-- what is kept and what is to come are all
abbrev pub invariant-loop-bit : goal.invariant-loop-bit
invariant-loop-bit l = l.kept ++ text_without_spaces (drop l.bit-index l.bits) ≡ text_without_spaces l.bits
