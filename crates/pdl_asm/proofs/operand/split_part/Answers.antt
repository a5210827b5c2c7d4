use Rattle.std.proofs.Common.{sym}
use Rattle.pdl_asm.proofs.Operands.{commas_none}
use Rattle.pdl_asm.proofs.operand.split_part.Goals as goal

pub returns-in-None-clause-parts : goal.returns-in-None-clause-parts
returns-in-None-clause-parts c = commas_none c.args.text.now (sym c.in-None.ensures.value)
