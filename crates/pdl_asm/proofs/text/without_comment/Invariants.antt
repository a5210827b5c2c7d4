use Rattle.std.proofs.Common.{length}
use Rattle.pdl_asm.proofs.Blanks.{Before}
use Rattle.pdl_asm.proofs.text.without_comment.Given as goal

-- what was passed has no comment
abbrev pub invariant-loop-rest : goal.invariant-loop-rest
invariant-loop-rest l = Before l.fn.text l.rest

abbrev pub decreases-loop-rest : goal.decreases-loop-rest
decreases-loop-rest l = length l.rest
