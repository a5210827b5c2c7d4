use Rattle.std.proofs.Common.{◌≡◌, ◌++◌, drop}
use Rattle.pdl_vread_pipe.specs.ExpectedPorts.{heads}
use Rattle.pdl_vread_pipe.specs.ToldParts as spec
use Rattle.pdl_vread_pipe.proofs.shape.seconds.Given as goal

abbrev pub invariant-loop-k : goal.invariant-loop-k
invariant-loop-k l = l.seconds ++ spec.seconds (heads (drop l.k l.ports)) ≡ spec.seconds (heads l.ports)
