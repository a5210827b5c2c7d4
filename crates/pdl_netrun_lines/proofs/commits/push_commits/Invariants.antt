use Rattle.std.proofs.Common.{◌≤◌, ◌++◌, drop, map}
use Rattle.pdl_net.specs.Run.{mem_at}
use Rattle.pdl_law_parts.specs.Runs.{puts_in}
use Rattle.pdl_trace.proofs.BytePieces.{IsUnderWay}
use Rattle.pdl_netrun_lines.proofs.CycleLines.{lines_of}
use Rattle.pdl_netrun_lines.proofs.commits.push_commits.Given as goal

-- some lines are passed on, and the others are to come
abbrev pub invariant-loop-i : goal.invariant-loop-i
invariant-loop-i g l = record {
  way : IsUnderWay (g.S.Sink.written l.fn.sink) (g.S.Sink.written l.sink)
      (l.fn.out ++ lines_of l.cycle (λ m. puts_in l.sim.netlist l.sim.last.ports m.name) (map (mem_at l.sim.netlist) l.order))
      (lines_of l.cycle (λ m. puts_in l.sim.netlist l.sim.last.ports m.name) (map (mem_at l.sim.netlist) (drop l.i-index l.order))) l.out;
  later : g.S.Sink.faults l.fn.sink ≤ g.S.Sink.faults l.sink;
}
