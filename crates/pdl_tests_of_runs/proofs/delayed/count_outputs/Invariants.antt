use Rattle.std.proofs.Common.{◌≡◌, ◌+◌, ◌≤◌, drop, length}
use Rattle.std.specs.Prelude.{filter_map}
use Rattle.pdl_net.specs.Circuit.{port_output}
use Rattle.pdl_tests_of_runs.proofs.delayed.count_outputs.Given as goal

-- those so far, and those to come
abbrev pub invariant-loop-port : goal.invariant-loop-port
invariant-loop-port l = record {
  whole : l.count + length (filter_map port_output (drop l.port-index l.port-items)) ≡ length (filter_map port_output l.port-items);
  few : l.count ≤ l.port-index;
}
