use Rattle.std.proofs.Common.{◌≡◌, ◌≤◌, ◌+◌, ◌++◌, map}
use Rattle.pdl_semantics.specs.Lines.{lines_from}
use Rattle.pdl_law_parts.specs.Runs.{column_of, commit_mems}
use Rattle.pdl_trace.proofs.BytePieces.{IsUnderWay}
use Rattle.pdl_netrun_lines.proofs.RunSteps.{Counted, whole, left}
use Rattle.pdl_netrun_lines.proofs.print.run_cycles.Given as goal

-- what was done, with what is left, is the whole
abbrev pub invariant-loop-done : goal.invariant-loop-done
invariant-loop-done g l = record {
  netlist : l.sim.netlist ≡ l.fn.sim.netlist;
  way : IsUnderWay (g.S.Sink.written l.fn.sink) (g.S.Sink.written l.sink)
      (l.fn.out ++ lines_from 1 (map column_of (commit_mems l.fn.sim.netlist)) (whole l.fn.sim.netlist l.fn.sim.held l.schedule.delays.now l.schedule.cycles))
      (lines_from (l.done + 1) (map column_of (commit_mems l.fn.sim.netlist))
      (left l.sim.netlist l.sim.held l.schedule.delays.now l.done l.schedule.cycles)) l.out;
  counted : Counted l.counts (left l.sim.netlist l.sim.held l.schedule.delays.now l.done l.schedule.cycles)
      (whole l.fn.sim.netlist l.fn.sim.held l.schedule.delays.now l.schedule.cycles) l.done;
  later : g.S.Sink.faults l.fn.sink ≤ g.S.Sink.faults l.sink;
}
