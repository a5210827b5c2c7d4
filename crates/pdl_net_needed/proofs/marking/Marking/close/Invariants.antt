use Rattle.pdl_net.specs.Circuit.{circuit_of}
use Rattle.pdl_net_needed.specs.Marking.{left_of, IsMarking}
use Rattle.pdl_net_needed.proofs.marking.Marking.close.Given as goal

abbrev pub invariant-loop-net : goal.invariant-loop-net
invariant-loop-net l = IsMarking (circuit_of l.n) l.self

abbrev pub decreases-loop-net : goal.decreases-loop-net
decreases-loop-net l = left_of l.self
