use Rattle.std.proofs.Common.{◌≡◌, ◌-◌, length}
use Rattle.pdl_net.specs.Meaning.{signal, Means}
use Rattle.pdl_net.specs.Growth.{Extends}
use Rattle.pdl_pipe_nexts.proofs.BirthsMade.{from_call}
use Rattle.pdl_pipe_nexts.proofs.births.picked_of.Given as goal

-- the last calls are there
abbrev pub invariant-loop-i : goal.invariant-loop-i
invariant-loop-i l = record {
  means : Means l.b l.net (from_call l.fn.b (signal l.fn.b l.moves) l.what l.births (length l.births - l.i) (signal l.fn.b l.fn.rest));
  wide : (signal l.b l.net).width ≡ (signal l.fn.b l.fn.rest).width;
  extends : Extends l.fn.b l.b;
  regs : l.b.regs ≡ l.fn.b.regs;
}
