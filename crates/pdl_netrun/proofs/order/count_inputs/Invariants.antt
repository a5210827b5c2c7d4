use Rattle.std.proofs.Common.{◌≡◌, ◌+◌, ◌≤◌, length, drop, filter_map}
use Rattle.pdl_net.specs.Circuit.{port_input}
use Rattle.pdl_netrun.proofs.order.count_inputs.Given as goal

abbrev pub invariant-loop-port : goal.invariant-loop-port
invariant-loop-port l = record {
  rest : l.inputs + length (filter_map port_input (drop l.port-index l.net.ports)) ≡ length (filter_map port_input l.net.ports);
  few : l.inputs ≤ l.port-index;
}
