use Rattle.std.proofs.Common.{◌≡◌, take}
use Rattle.pdl_vlog.specs.Layout as spec
use Rattle.pdl_vlog.proofs.cells.input_names.Given as goal

abbrev pub invariant-loop-port : goal.invariant-loop-port
invariant-loop-port l = l.names ≡ spec.input_names (take l.port-index l.ports)
