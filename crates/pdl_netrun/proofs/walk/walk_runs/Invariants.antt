use Rattle.std.proofs.Common.{◌≡◌, ◌+◌, length}
use Rattle.pdl_netrun.specs.Steps.{StepsFit, steps_of, after_steps, array_words}
use Rattle.pdl_netrun.proofs.walk.walk_runs.Given as goal

abbrev pub invariant-loop-left : goal.invariant-loop-left
invariant-loop-left l = record {
  room : l.at + length (steps_of l.left) ≡ l.first + length (steps_of l.runs);
  rest : after_steps (steps_of l.left) l.at l.values (array_words l.arrays)
      ≡ after_steps (steps_of l.runs) l.first l.initial.values (array_words l.arrays);
  fit : StepsFit 64 (steps_of l.left) l.at l.values (array_words l.arrays);
  count : length l.values ≡ length l.initial.values;
}

abbrev pub decreases-loop-left : goal.decreases-loop-left
decreases-loop-left l = length l.left
