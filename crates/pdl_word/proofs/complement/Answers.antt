use Rattle.std.proofs.Common.{arith}
use Rattle.pdl_word.specs.Words.{mask, complement}
use Rattle.pdl_word.proofs.complement.Goals as goal

pub overflow_sub-result : goal.overflow_sub-result
unfolding mask
overflow_sub-result c = omega (arith, c.mask.ensures)

pub returns : goal.returns
unfolding mask complement
returns c = cc
