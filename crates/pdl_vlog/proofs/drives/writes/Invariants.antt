use Rattle.std.proofs.Common.{◌≡◌, ◌++◌, take, flat_map}
use Rattle.pdl_vlog.specs.Layout as spec
use Rattle.pdl_vlog.proofs.drives.writes.Given as goal

abbrev pub invariant-loop-port : goal.invariant-loop-port
invariant-loop-port l = l.text ≡ l.fn.text ++ flat_map (spec.write l.inputs l.name) (take l.port-index l.ports)
