use Rattle.std.proofs.Common.{◌≡◌, drop}
use Rattle.pdl_machine_run.specs.Acts.{all_of, is_mover}
use Rattle.pdl_machine_run.proofs.decide.has_mover.Given as goal

-- the stages left decide
abbrev pub invariant-loop-k : goal.invariant-loop-k
invariant-loop-k l = is_mover l.thread (all_of l.k (drop l.k l.stages)) ≡ is_mover l.thread (all_of l.first (drop l.first l.stages))
