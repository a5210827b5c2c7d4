use Rattle.pdl_pipe_nexts.specs.Nexts.{AllNexts}
use Rattle.pdl_pipe_nexts.proofs.ConnectedRegisters.{ConnectedSoFar}
use Rattle.pdl_pipe_nexts.proofs.connecting.set_stages.Given as goal

-- the first stages are told
abbrev pub invariant-loop-k : goal.invariant-loop-k
invariant-loop-k l = ConnectedSoFar l.fn.b l.b l.line l.k × AllNexts l.fn.b l.b l.line l.nexts.items
