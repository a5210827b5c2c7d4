use Rattle.std.proofs.Common.{◌≡◌, ◌≤◌, drop, filter_map, bytes_eq}
use Rattle.std.specs.List.{position_from}
use Rattle.pdl_net.specs.Circuit.{port_output}
use Rattle.pdl_netrun.proofs.places.place_of.Given as goal

abbrev pub invariant-loop-port : goal.invariant-loop-port
invariant-loop-port l = record {
  counted : l.place ≤ l.port-index;
  rest : position_from (λ o. bytes_eq o.name l.name) l.place (filter_map port_output (drop l.port-index l.ports))
      ≡ position_from (λ o. bytes_eq o.name l.name) 0 (filter_map port_output l.ports);
}
