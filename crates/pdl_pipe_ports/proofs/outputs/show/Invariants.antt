use Rattle.std.proofs.Common.{◌≡◌}
use Rattle.pdl_pipe_ports.proofs.OutShows.{AreAdded}
use Rattle.pdl_pipe_ports.proofs.outputs.show.Given as goal

abbrev pub invariant-loop-o : goal.invariant-loop-o
invariant-loop-o l = record {
  added : AreAdded l.fn.b l.b l.outs l.o-index;
  regs : l.b.regs ≡ l.fn.b.regs;
}
