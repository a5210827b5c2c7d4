use Rattle.std.proofs.Common.{◌≡◌, ◌-◌, length, drop}
use Rattle.pdl_net.specs.Meaning.{signal, Means}
use Rattle.pdl_net.specs.Growth.{Extends}
use Rattle.pdl_pipe_tails.specs.Carried.{brought_tail}
use Rattle.pdl_pipe_tails.proofs.carried.coming.Given as goal

-- the last of the threads are there
abbrev pub invariant-loop-i : goal.invariant-loop-i
invariant-loop-i l = record {
  means : Means l.b l.net (brought_tail l.fn.b l.before l.mem (drop (length l.arrivals - l.i) l.arrivals) (signal l.fn.b l.fn.rest));
  wide : (signal l.b l.net).width ≡ (signal l.fn.b l.fn.rest).width;
  extends : Extends l.fn.b l.b;
  regs : l.b.regs ≡ l.fn.b.regs;
}
