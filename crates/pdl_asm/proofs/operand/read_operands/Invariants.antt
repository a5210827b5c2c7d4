use Rattle.std.specs.Option.{option_copied}
use Rattle.pdl_asm.specs.Lines.{operands_in, operands_of, parts_after}
use Rattle.pdl_asm.proofs.Operands.{Read, left}
use Rattle.pdl_asm.proofs.operand.read_operands.Given as goal

-- what is read and what is to come are all
abbrev pub invariant-loop-rest : goal.invariant-loop-rest
invariant-loop-rest l = Read l.operands (operands_in (parts_after (option_copied l.rest))) (operands_of l.fn.text)

abbrev pub decreases-loop-rest : goal.decreases-loop-rest
decreases-loop-rest l = left (option_copied l.rest)
