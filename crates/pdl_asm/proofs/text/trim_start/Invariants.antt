use Rattle.std.proofs.Common.{◌≡◌, length}
use Rattle.pdl_asm.specs.Lines.{trim_start}
use Rattle.pdl_asm.proofs.text.trim_start.Given as goal

-- what was passed is blank
abbrev pub invariant-loop-rest : goal.invariant-loop-rest
invariant-loop-rest l = trim_start l.rest ≡ trim_start l.fn.text

abbrev pub decreases-loop-rest : goal.decreases-loop-rest
decreases-loop-rest l = length l.rest
