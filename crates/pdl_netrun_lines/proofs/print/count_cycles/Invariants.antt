use Rattle.std.proofs.Common.{◌≡◌}
use Rattle.pdl_netrun_lines.proofs.RunSteps.{Counted, whole, left}
use Rattle.pdl_netrun_lines.proofs.print.count_cycles.Given as goal

-- those so far are counted
abbrev pub invariant-loop-done : goal.invariant-loop-done
invariant-loop-done l = record {
  netlist : l.sim.netlist ≡ l.fn.sim.netlist;
  counted : Counted l.counts (left l.sim.netlist l.sim.held l.schedule.delays.now l.done l.schedule.cycles)
      (whole l.fn.sim.netlist l.fn.sim.held l.schedule.delays.now l.schedule.cycles) l.done;
}
