use Rattle.std.proofs.Common.{◌≡◌, drop}
use Rattle.pdl_pipe_walk.specs.MarkLookups.{mark_net as net_in}
use Rattle.pdl_pipe_walk.proofs.update.mark_net.Given as goal

-- none so far is of the location's mark
abbrev pub invariant-loop-x : goal.invariant-loop-x
invariant-loop-x l = record {
  left : net_in (drop l.x-index l.marks) l.zero l.mark l.mem l.var ≡ net_in l.marks l.zero l.mark l.mem l.var;
}
