use Rattle.std.proofs.Common.{length}
use Rattle.pdl_asm.proofs.rules.+operands_rule.Given as goal

abbrev pub decreases-operands_rule : goal.decreases-operands_rule
decreases-operands_rule l = length l.args.now
