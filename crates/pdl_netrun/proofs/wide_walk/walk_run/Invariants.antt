use Rattle.std.proofs.Common.{◌≡◌, ◌+◌, drop, length}
use Rattle.pdl_word.specs.Words.{widest}
use Rattle.pdl_netrun.specs.RunKinds.{kind_in}
use Rattle.pdl_netrun.specs.Steps.{StepsFit, steps_with, after_steps, array_words}
use Rattle.pdl_netrun.proofs.wide_walk.walk_run.Given as goal

abbrev pub invariant-loop-k : goal.invariant-loop-k
invariant-loop-k l = record {
  rest : after_steps (steps_with (kind_in l.run.kind) (drop l.k l.run.operands.items)) (l.first + l.k) l.values (array_words l.arrays)
      ≡ after_steps (steps_with (kind_in l.run.kind) l.run.operands.items) l.first l.initial.values (array_words l.arrays);
  fit : StepsFit widest (steps_with (kind_in l.run.kind) (drop l.k l.run.operands.items)) (l.first + l.k) l.values (array_words l.arrays);
  count : length l.values ≡ length l.initial.values;
}
