use Rattle.pdl_pipe_moves.specs.StageSquashes.{ArePadded}
use Rattle.pdl_pipe_moves.proofs.squash.padded.Given as goal

-- the first of them
abbrev pub invariant-loop-k : goal.invariant-loop-k
invariant-loop-k l = ArePadded l.nets l.fill l.k l.list.items
