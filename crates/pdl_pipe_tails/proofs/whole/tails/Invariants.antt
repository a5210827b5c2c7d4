use Rattle.std.proofs.Common.{◌≡◌, length}
use Rattle.pdl_net.specs.Growth.{Extends}
use Rattle.pdl_pipe_tails.proofs.AllRows.{FirstRows}
use Rattle.pdl_pipe_tails.proofs.whole.tails.Given as goal

-- the tails of the first stages
abbrev pub invariant-loop-k : goal.invariant-loop-k
invariant-loop-k l = record {
  count : length l.before.items ≡ l.k;
  rows : FirstRows l.fn.b l.b l.line l.before.items l.k;
  extends : Extends l.initial.b l.b;
}
