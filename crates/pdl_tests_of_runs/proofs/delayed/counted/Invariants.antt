use Rattle.std.proofs.Common.{◌≡◌}
use Rattle.pdl_tests_of_runs.proofs.delayed.counted.Given as goal

-- the machine has had as many cycles, and the simulator runs its netlist
abbrev pub invariant-loop-cycle : goal.invariant-loop-cycle
invariant-loop-cycle l = record {
  cycles : l.machine.cycles ≡ l.cycle;
  netlist : l.sim.netlist ≡ l.fn.sim.netlist;
}
