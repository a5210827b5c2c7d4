use Rattle.pdl_net.specs.Growth.{Extends}
use Rattle.pdl_pipe_moves.specs.Passed.{HaveFree}
use Rattle.pdl_pipe_moves.proofs.passing.stage_frees.Given as goal

-- the ports of the first memories
abbrev pub invariant-loop-m : goal.invariant-loop-m
invariant-loop-m l = Extends l.fn.b l.b × HaveFree l.b l.line l.k l.nets l.m
