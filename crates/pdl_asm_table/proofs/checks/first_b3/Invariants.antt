use Rattle.std.proofs.Common.{◌≡◌, ◌+◌, drop}
use Rattle.pdl_asm_table.specs.Tables.{first_broken, breaks_b3}
use Rattle.pdl_asm_table.proofs.checks.first_b3.Given as goal

-- those so far are right
abbrev pub invariant-loop-i : goal.invariant-loop-i
invariant-loop-i l = first_broken (breaks_b3 l.word) (l.i + 1) (drop l.i l.insns) ≡ first_broken (breaks_b3 l.word) 1 l.insns
