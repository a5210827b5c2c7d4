use Rattle.std.proofs.Common.{arith}
use Rattle.pdl_word.specs.Words.{widest, mask}
use Rattle.pdl_word.proofs.Signs.{wider}
use Rattle.pdl_word.proofs.sext.Goals as goal

pub overflow_sub-result : goal.overflow_sub-result
unfolding mask
overflow_sub-result c = omega (arith, wider c.args.width c.args.wide c.requires.order)

pub overflow_add-result : goal.overflow_add-result
unfolding mask
overflow_add-result c = omega (arith, wider c.args.width c.args.wide c.requires.order, wider c.args.wide widest c.requires.high)
