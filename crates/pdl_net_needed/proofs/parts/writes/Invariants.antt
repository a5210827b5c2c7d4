use Rattle.std.proofs.Common.{◌≡◌, map, take}
use Rattle.pdl_net_needed.specs.Pruned.{moved_write}
use Rattle.pdl_net_needed.proofs.parts.writes.Given as goal

abbrev pub invariant-loop-i : goal.invariant-loop-i
invariant-loop-i l = l.moved ≡ map (moved_write l.kept) (take l.i l.ports)
