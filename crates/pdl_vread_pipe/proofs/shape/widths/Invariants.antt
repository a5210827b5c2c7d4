use Rattle.std.proofs.Common.{◌≡◌, take}
use Rattle.pdl_vread_pipe.specs.ExpectedPorts.{heads}
use Rattle.pdl_vread_pipe.specs.ToldParts as spec
use Rattle.pdl_vread_pipe.proofs.shape.widths.Given as goal

abbrev pub invariant-loop-port : goal.invariant-loop-port
invariant-loop-port l = l.widths ≡ spec.widths l.prefix (heads (take l.port-index l.ports))
