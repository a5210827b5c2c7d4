use Rattle.std.proofs.Common.{◌≡◌, ◌-◌, length}
use Rattle.pdl_net.specs.Meaning.{signal, Means}
use Rattle.pdl_net.specs.Growth.{Extends}
use Rattle.pdl_pipe_nexts.specs.Lines.{line_views, line_moves}
use Rattle.pdl_pipe_nexts.proofs.BirthsMade.{from_stage}
use Rattle.pdl_pipe_nexts.proofs.births.new_coming.Given as goal

-- the calls of the last stages are there
abbrev pub invariant-loop-i : goal.invariant-loop-i
invariant-loop-i l = record {
  means : Means l.b l.net
      (from_stage (line_views l.fn.b l.line) (line_moves l.fn.b l.line) l.what l.i (length l.line.stages.now - l.i) (signal l.fn.b l.fn.rest));
  wide : (signal l.b l.net).width ≡ (signal l.fn.b l.fn.rest).width;
  extends : Extends l.fn.b l.b;
  regs : l.b.regs ≡ l.fn.b.regs;
}
