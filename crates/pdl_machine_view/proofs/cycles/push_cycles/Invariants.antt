use Rattle.std.proofs.Common.{◌≡◌, ◌≤◌, ◌+◌, ◌++◌}
use Rattle.pdl_netrun_lines.specs.Printed.{schedule}
use Rattle.pdl_trace.proofs.BytePieces.{IsUnderWay}
use Rattle.pdl_machine.specs.Running.{flat_of, state_of}
use Rattle.pdl_machine_view.specs.Lines.{lines_from}
use Rattle.pdl_machine_view.proofs.ViewedRuns.{left}
use Rattle.pdl_machine_view.proofs.cycles.push_cycles.Given as goal

-- what was done, with what is left, is the whole
abbrev pub invariant-loop-done : goal.invariant-loop-done
invariant-loop-done g l = record {
  pipe : l.machine.pipe ≡ l.fn.machine.pipe;
  few : l.machine.cycles ≤ l.done + 1;
  way : IsUnderWay (g.S.Sink.written l.fn.sink) (g.S.Sink.written l.sink)
      (l.fn.out ++ lines_from 1 (flat_of l.fn.machine) (state_of l.fn.machine) (schedule l.delays l.cycles))
      (left (flat_of l.machine) (state_of l.machine) l.delays l.done l.cycles) l.out;
  later : g.S.Sink.faults l.fn.sink ≤ g.S.Sink.faults l.sink;
}
