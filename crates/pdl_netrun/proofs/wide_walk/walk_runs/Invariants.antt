use Rattle.std.proofs.Common.{◌≡◌, ◌+◌, drop, length}
use Rattle.pdl_word.specs.Words.{widest}
use Rattle.pdl_netrun.specs.Steps.{StepsFit, steps_of, after_steps, array_words}
use Rattle.pdl_netrun.proofs.wide_walk.walk_runs.Given as goal

abbrev pub invariant-loop-run : goal.invariant-loop-run
invariant-loop-run l = record {
  room : l.at + length (steps_of (drop l.run-index l.runs)) ≡ l.first + length (steps_of l.runs);
  rest : after_steps (steps_of (drop l.run-index l.runs)) l.at l.values (array_words l.arrays)
      ≡ after_steps (steps_of l.runs) l.first l.initial.values (array_words l.arrays);
  fit : StepsFit widest (steps_of (drop l.run-index l.runs)) l.at l.values (array_words l.arrays);
  count : length l.values ≡ length l.initial.values;
}
