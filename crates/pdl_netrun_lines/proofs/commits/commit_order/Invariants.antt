use Rattle.std.proofs.Common.{drop}
use Rattle.pdl_netrun_lines.proofs.CommitPorts.{AreSoFar}
use Rattle.pdl_netrun_lines.proofs.commits.commit_order.Given as goal

-- the numbers so far, and the ports to come
abbrev pub invariant-loop-port : goal.invariant-loop-port
invariant-loop-port l = AreSoFar l.net l.order.items (drop l.port-index l.port-items)
