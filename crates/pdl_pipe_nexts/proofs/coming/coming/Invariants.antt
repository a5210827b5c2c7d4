use Rattle.std.proofs.Common.{◌≡◌, ◌-◌, length}
use Rattle.pdl_machine_facts.specs.Slots.{ways}
use Rattle.pdl_net.specs.Meaning.{signal, IsThere}
use Rattle.pdl_net.specs.Growth.{Extends}
use Rattle.pdl_pipe_nexts.specs.Lines.{line_pipe, line_views, line_moves, ValueAs}
use Rattle.pdl_pipe_nexts.proofs.BroughtItems.{from_way}
use Rattle.pdl_pipe_nexts.proofs.coming.coming.Given as goal

-- the threads out of the last stages are there
abbrev pub invariant-loop-i : goal.invariant-loop-i
invariant-loop-i l = record {
  there : IsThere l.b l.net;
  value : ValueAs (signal l.b l.net)
      (from_way (line_pipe l.line) (line_views l.fn.b l.line)
      (line_moves l.fn.b l.line) l.q (ways (line_pipe l.line) l.q) l.what (length l.arrivals - l.i)
      (signal l.fn.b l.fn.rest));
  wide : (signal l.b l.net).width ≡ (signal l.fn.b l.fn.rest).width;
  extends : Extends l.fn.b l.b;
  regs : l.b.regs ≡ l.fn.b.regs;
}
