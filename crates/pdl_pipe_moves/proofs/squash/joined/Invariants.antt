use Rattle.pdl_word.specs.Each.{Each}
use Rattle.pdl_net.specs.Growth.{Extends}
use Rattle.pdl_pipe_exprs.specs.Nets.{signals_in, signal_at}
use Rattle.pdl_pipe_answers.specs.Ports.{IsBit}
use Rattle.pdl_pipe_moves.specs.StageSquashes.{AreJoined}
use Rattle.pdl_pipe_moves.proofs.squash.joined.Given as goal

-- those of the first stages
abbrev pub invariant-loop-k : goal.invariant-loop-k
invariant-loop-k l = record {
  bits : Each (IsBit l.b) l.list.items;
  joined : AreJoined (signal_at (signals_in l.fn.b l.first)) (signal_at (signals_in l.fn.b l.second)) l.u l.k (signals_in l.b l.list.items);
  extends : Extends l.fn.b l.b;
}
