use Rattle.std.proofs.Common.{◌≤◌, ◌++◌, drop, map}
use Rattle.std.specs.List.{flat_map}
use Rattle.pdl_law_parts.specs.Runs.{column_of}
use Rattle.pdl_seq.specs.Runs.{write_line}
use Rattle.pdl_trace.proofs.BytePieces.{IsUnderWay}
use Rattle.pdl_cli_commands.proofs.sequential.push_writes.Given as goal

-- some lines are passed on, and the others are to come
abbrev pub invariant-loop-write : goal.invariant-loop-write
invariant-loop-write g l = record {
  way : IsUnderWay (g.O.Sink.written l.fn.out) (g.O.Sink.written l.out) (l.fn.lines ++ flat_map (write_line (map column_of l.mems)) l.writes)
      (flat_map (write_line (map column_of l.mems)) (drop l.write-index l.writes)) l.lines;
  later : g.O.Sink.faults l.fn.out ≤ g.O.Sink.faults l.out;
}
