use Rattle.std.proofs.Common.{◌≡◌, Some, drop}
use Rattle.pdl_machine_run.specs.Acts.{all_of}
use Rattle.pdl_semantics.specs.Moves as moves
use Rattle.pdl_machine_run.proofs.decide.are_empty.Given as goal

-- the stages left decide
abbrev pub invariant-loop-k : goal.invariant-loop-k
invariant-loop-k l = moves.none_up_to (Some l.last) (all_of l.k (drop l.k l.stages)) ≡ moves.none_up_to (Some l.last) (all_of l.first (drop l.first l.stages))
