use Rattle.std.proofs.Common.{◌≡◌, drop, flat_map}
use Rattle.pdl_net.specs.Pipe.{commit_ports}
use Rattle.pdl_vread_pipe.specs.ExpectedPorts.{after, heads}
use Rattle.pdl_vread_pipe.proofs.ports.commits.Given as goal

abbrev pub invariant-loop-mem : goal.invariant-loop-mem
invariant-loop-mem l = after (flat_map commit_ports (drop l.mem-index l.mems)) (heads l.left) ≡ after (flat_map commit_ports l.mems) (heads l.ports)
