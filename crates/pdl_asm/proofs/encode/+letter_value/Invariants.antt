use Rattle.std.proofs.Common.{length}
use Rattle.pdl_asm.proofs.encode.+letter_value.Given as goal

abbrev pub decreases-letter_value : goal.decreases-letter_value
decreases-letter_value l = length l.args.now
