use Rattle.std.proofs.Common.{◌≡◌, ◌≤◌, ◌+◌, ◌-◌, ◌++◌, length}
use Rattle.pdl_net.specs.Run.{nports_from}
use Rattle.pdl_netrun_lines.specs.Printed.{replies_from, schedule}
use Rattle.pdl_trace.proofs.BytePieces.{IsUnderWay}
use Rattle.pdl_netrun_wave.specs.Cycles.{cycles_text, IsFit}
use Rattle.pdl_netrun_wave.specs.Dumped.{rows_of}
use Rattle.pdl_netrun_wave.proofs.run.push_cycles.Given as goal

-- what was done, with what is left, is the whole
abbrev pub invariant-loop-done : goal.invariant-loop-done
invariant-loop-done g l = record {
  netlist : l.sim.netlist ≡ l.fn.sim.netlist;
  fit : IsFit l.sim.netlist l.sim.held;
  count : length l.before ≡ length l.ports;
  way : IsUnderWay (g.S.Sink.written l.fn.sink) (g.S.Sink.written l.sink)
      (l.fn.out ++ cycles_text l.ports 1 l.fn.before (rows_of (nports_from l.fn.sim.netlist l.fn.sim.held (schedule l.schedule.delays.now l.schedule.cycles))))
      (cycles_text l.ports (l.done + 1) l.before
      (rows_of (nports_from l.sim.netlist l.sim.held (replies_from l.schedule.delays.now (l.done + 1) (l.schedule.cycles - l.done))))) l.out;
  later : g.S.Sink.faults l.fn.sink ≤ g.S.Sink.faults l.sink;
}
