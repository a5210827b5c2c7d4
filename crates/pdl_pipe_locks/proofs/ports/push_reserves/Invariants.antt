use Rattle.pdl_net.specs.Growth.{Extends}
use Rattle.pdl_pipe_locks.proofs.PortLists.{ReservesUpTo}
use Rattle.pdl_pipe_locks.proofs.ports.push_reserves.Given as goal

abbrev pub invariant-loop-r : goal.invariant-loop-r
invariant-loop-r l = record { extends : Extends l.fn.b l.b; adds : ReservesUpTo l.fn.b l.b l.fn.ports l.ports l.m l.moves l.reserves l.r-index }
