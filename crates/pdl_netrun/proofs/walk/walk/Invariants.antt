use Rattle.std.proofs.Common.{◌≡◌, ◌+◌, length}
use Rattle.pdl_netrun.specs.Steps.{StepsFit, steps_with, after_steps, array_words}
use Rattle.pdl_netrun.proofs.walk.walk.Given as goal

abbrev pub invariant-loop-left : goal.invariant-loop-left
invariant-loop-left g l = record {
  room : l.at + length l.left ≡ l.first + length l.operands;
  rest : after_steps (steps_with g.K.CellOperation.kind l.left) l.at l.values (array_words l.arrays)
      ≡ after_steps (steps_with g.K.CellOperation.kind l.operands) l.first l.initial.values (array_words l.arrays);
  fit : StepsFit 64 (steps_with g.K.CellOperation.kind l.left) l.at l.values (array_words l.arrays);
  count : length l.values ≡ length l.initial.values;
}

abbrev pub decreases-loop-left : goal.decreases-loop-left
decreases-loop-left g l = length l.left
