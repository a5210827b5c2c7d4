use Rattle.std.proofs.Common.{◌≡◌, map, take}
use Rattle.pdl_vread.proofs.build.write_ports.Given as goal

abbrev pub invariant-loop-write : goal.invariant-loop-write
invariant-loop-write l = l.ports ≡ map (λ w. w.port) (take l.write-index l.writes)
