use Rattle.std.proofs.Common.{◌≡◌, ℕ, ◌<◌, length}
use Rattle.pdl_net.specs.Growth.{Extends}
use Rattle.pdl_pipe_exprs.specs.Nets.{NetsThere, signals_in, signal_at}
use Rattle.pdl_pipe_nexts.specs.Lines.{line_pipe}
use Rattle.pdl_pipe_tails.specs.Tails.{IsTail}
use Rattle.pdl_pipe_tails.proofs.carried.stage_tails.Given as goal

-- the tails of the first memories
abbrev pub invariant-loop-m : goal.invariant-loop-m
invariant-loop-m l = record {
  there : NetsThere l.b l.nets;
  count : length l.nets ≡ l.m;
  tails : (m : ℕ) → m < l.m → IsTail l.initial.b l.b (line_pipe l.line) l.fresh l.before l.arrivals l.stage m (signal_at (signals_in l.b l.nets) m);
  extends : Extends l.initial.b l.b;
}
