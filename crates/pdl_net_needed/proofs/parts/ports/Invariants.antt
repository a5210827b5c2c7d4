use Rattle.std.proofs.Common.{◌≡◌, map, take}
use Rattle.pdl_net_needed.specs.Pruned.{moved_port}
use Rattle.pdl_net_needed.proofs.parts.ports.Given as goal

abbrev pub invariant-loop-i : goal.invariant-loop-i
invariant-loop-i l = l.moved ≡ map (moved_port l.kept) (take l.i l.ports)
