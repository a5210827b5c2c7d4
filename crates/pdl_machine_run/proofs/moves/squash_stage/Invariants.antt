use Rattle.std.proofs.Common.{◌≡◌, drop}
use Rattle.pdl_semantics.specs.Cycle as stated
use Rattle.pdl_machine_run.specs.Acts.{acts_of}
use Rattle.pdl_machine_run.proofs.moves.squash_stage.Given as goal

-- the stages left decide
abbrev pub invariant-loop-k : goal.invariant-loop-k
invariant-loop-k l = stated.squash_stage (acts_of l.k (drop l.k l.stages)) ≡ stated.squash_stage (acts_of 0 l.stages)
