use Rattle.std.proofs.Common.{◌≤◌, ◌-◌, ◌++◌}
use Rattle.pdl_trace.proofs.BytePieces.{IsUnderWay}
use Rattle.pdl_machine_view.specs.Lines.{letters_from}
use Rattle.pdl_machine_view.proofs.lines.push_letters.Given as goal

-- some letters are passed on, and the others are to come
abbrev pub invariant-loop-stage : goal.invariant-loop-stage
invariant-loop-stage g l = record {
  way : IsUnderWay (g.S.Sink.written l.fn.sink) (g.S.Sink.written l.sink)
      (l.fn.out ++ letters_from l.machine.shown 0 l.stages) (letters_from l.machine.shown l.stage (l.stages - l.stage)) l.out;
  later : g.S.Sink.faults l.fn.sink ≤ g.S.Sink.faults l.sink;
}
