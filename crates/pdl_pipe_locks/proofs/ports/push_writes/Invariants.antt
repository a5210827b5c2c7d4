use Rattle.pdl_net.specs.Growth.{Extends}
use Rattle.pdl_law_parts.specs.Ports.{tickets_to}
use Rattle.pdl_pipe_locks.specs.Deeds.{view_in}
use Rattle.pdl_pipe_locks.proofs.PortLists.{WritesUpTo}
use Rattle.pdl_pipe_locks.proofs.ports.push_writes.Given as goal

abbrev pub invariant-loop-x : goal.invariant-loop-x
invariant-loop-x l = record {
  extends : Extends l.fn.b l.b;
  adds : WritesUpTo l.fn.b l.b l.fn.ports l.ports l.m l.deed.moves (tickets_to l.twice l.m (view_in l.fn.b l.deed)) l.puts l.x-index;
}
