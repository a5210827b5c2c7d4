use Rattle.std.proofs.Common.{◌≡◌, ◌<◌, length, slice_index, drop, filter_map}
use Rattle.pdl_net.specs.Circuit.{circuit_of, inputs_of, port_input}
use Rattle.pdl_net.proofs.Netlist.input_width.Given as goal

abbrev pub invariant-loop-port : goal.invariant-loop-port
invariant-loop-port l = record {
  there : l.left < length (filter_map port_input (drop l.port-index l.self.ports));
  same : slice_index (filter_map port_input (drop l.port-index l.self.ports)) l.left ≡ slice_index (inputs_of (circuit_of l.self)) l.fn.i;
}
