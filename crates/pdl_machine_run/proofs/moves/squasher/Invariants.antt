use Rattle.std.proofs.Common.{◌≡◌, drop}
use Rattle.pdl_machine_run.specs.Acts.{acts_of}
use Rattle.pdl_semantics.specs.Cycle as stated
use Rattle.pdl_machine_run.proofs.moves.squasher.Given as goal

-- the stages left decide
abbrev pub invariant-loop-stage : goal.invariant-loop-stage
invariant-loop-stage l = stated.squasher (acts_of l.stage-index (drop l.stage-index l.stages)) ≡ stated.squasher (acts_of 0 l.stages)
