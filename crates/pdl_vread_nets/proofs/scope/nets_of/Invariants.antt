use Rattle.std.proofs.Common.{◌≡◌, ◌++◌, ◌≤◌, drop}
use Rattle.pdl_vread_nets.specs.Wired as spec
use Rattle.pdl_vread_nets.proofs.scope.nets_of.Given as goal

abbrev pub invariant-loop-port : goal.invariant-loop-port
invariant-loop-port l = record {
  nets : l.nets.items ++ spec.port_nets l.inputs (drop l.port-index l.ports) ≡ spec.port_nets 0 l.ports;
  few : l.inputs ≤ l.port-index;
}
