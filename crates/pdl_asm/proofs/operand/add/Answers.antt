use Rattle.std.proofs.Common.{◌∙◌, arith}
use Rattle.pdl_asm.proofs.Operands.{kept_full, kept_more}
use Rattle.pdl_asm.proofs.operand.add.Goals as goal

pub returns-in_ok-push : goal.returns-in_ok-push
returns-in_ok-push c = c.in_ok-push.ensures.ok ∙ kept_more c.args.operands.now c.args.operand (omega (arith, c.len.ensures, c.if-len-le-MOST.true))

pub returns-else-len-le-MOST : goal.returns-else-len-le-MOST
returns-else-len-le-MOST c = kept_full c.args.operands.now c.args.operand (omega (arith, c.len.ensures, c.if-len-le-MOST.false, c.requires))
