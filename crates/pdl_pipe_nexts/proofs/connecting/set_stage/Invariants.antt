use Rattle.pdl_pipe_nexts.proofs.ConnectedRegisters.{SetSoFar}
use Rattle.pdl_pipe_nexts.proofs.connecting.set_stage.Given as goal

-- the first registers are told
abbrev pub invariant-loop-i : goal.invariant-loop-i
invariant-loop-i l = SetSoFar l.fn.b l.b l.s l.nets l.i
