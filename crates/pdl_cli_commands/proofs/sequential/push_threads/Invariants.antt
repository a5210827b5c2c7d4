use Rattle.std.proofs.Common.{◌≡◌, ◌≤◌, ◌-◌, ◌^◌, ◌++◌, ℕ, List, map, true}
use Rattle.pdl_semantics.specs.Flat.{arrays_of}
use Rattle.pdl_form.specs.FormView.{form}
use Rattle.pdl_law_parts.specs.Runs.{column_of}
use Rattle.pdl_seq.specs.Runs.{HasRun}
use Rattle.pdl_trace.specs.Passed.{HasPassed}
use Rattle.pdl_cli_commands.proofs.SequentialLines.{texts}
use Rattle.pdl_cli_commands.proofs.sequential.push_threads.Given as goal

-- so many threads were run, and their lines are passed on
abbrev pub invariant-loop-done : goal.invariant-loop-done
invariant-loop-done g l = record {
  run : (image : List (List ℕ)) → HasRun l.fn.run image → HasRun l.run image;
  passed : (image : List (List ℕ)) → HasRun l.fn.run image
      → HasPassed (g.O.Sink.written l.fn.out) (g.O.Sink.written l.out)
      (l.fn.lines ++ texts (map column_of l.mems) (form l.fn.run.pipe).pipe (arrays_of image) l._done) l.lines;
  pipe : l.run.pipe ≡ l.fn.run.pipe;
  count : l.run.run ≡ l._done;
  room : l.run.threads ≡ 2 ^ 32 - 1;
  streams : l.run.streams ≡ true;
  later : g.O.Sink.faults l.fn.out ≤ g.O.Sink.faults l.out;
}
