use Rattle.std.proofs.Common.{◌≡◌}
use Rattle.pdl_net.specs.Meaning.{signal, IsThere}
use Rattle.pdl_net.specs.Growth.{Extends}
use Rattle.pdl_pipe_exprs.specs.Nets.{signals_in, signal_at}
use Rattle.pdl_law_parts.specs.Ports.{all_reserves}
use Rattle.pdl_pipe_nexts.specs.Lines.{line_views, line_moves}
use Rattle.pdl_pipe_tails.specs.Reserved.{IsAfter}
use Rattle.pdl_pipe_tails.proofs.reserved.after_all.Given as goal

-- the ticket after all that the first stages reserve
abbrev pub invariant-loop-k : goal.invariant-loop-k
invariant-loop-k l = record {
  there : IsThere l.b l.net;
  after : IsAfter (signal_at (signals_in l.fn.b l.line.shared.now.next) l.mem) (signal l.b l.net)
      (all_reserves l.mem (line_views l.fn.b l.line) (line_moves l.fn.b l.line) l.k 0);
  extends : Extends l.fn.b l.b;
  regs : l.b.regs ≡ l.fn.b.regs;
}
