use Rattle.std.proofs.Common.{◌≡◌, ◌-◌, flat_map}
use Rattle.std.specs.List.{range_with_len}
use Rattle.pdl_net.specs.Pipe.{stage_ports}
use Rattle.pdl_vread_pipe.specs.ExpectedPorts.{after, heads}
use Rattle.pdl_vread_pipe.proofs.ports.stages.Given as goal

abbrev pub invariant-loop-k : goal.invariant-loop-k
invariant-loop-k l =
    after (flat_map stage_ports (range_with_len l.k (l.count - l.k))) (heads l.left) ≡ after (flat_map stage_ports (range_with_len 0 l.count)) (heads l.ports)
