use Rattle.std.proofs.Common.{◌≡◌, ℕ, ◌<◌, length}
use Rattle.pdl_net.specs.Growth.{Extends}
use Rattle.pdl_pipe_exprs.specs.Nets.{NetsThere, signals_in, signal_at}
use Rattle.pdl_pipe_tails.specs.Reserved.{IsAfterAll}
use Rattle.pdl_pipe_tails.proofs.reserved.next_after.Given as goal

-- the tickets of the first memories
abbrev pub invariant-loop-m : goal.invariant-loop-m
invariant-loop-m l = record {
  there : NetsThere l.b l.nets;
  count : length l.nets ≡ l.m;
  after : (m : ℕ) → m < l.m → IsAfterAll l.fn.b l.line m (signal_at (signals_in l.b l.nets) m);
  extends : Extends l.fn.b l.b;
  regs : l.b.regs ≡ l.fn.b.regs;
}
