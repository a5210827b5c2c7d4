use Rattle.std.proofs.Common.{arith}
use Rattle.pdl_machine_view.proofs.lines.letter.Goals as goal

pub overflow_mul-stage : goal.overflow_mul-stage
overflow_mul-stage c = omega (arith, c.requires.few)

pub overflow_mul-stage-2 : goal.overflow_mul-stage-2
overflow_mul-stage-2 c = omega (arith, c.requires.few)

pub overflow_add-stage : goal.overflow_add-stage
overflow_add-stage c = omega (arith, c.requires.few)
