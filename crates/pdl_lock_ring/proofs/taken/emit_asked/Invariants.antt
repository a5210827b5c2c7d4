use Rattle.pdl_net.specs.Growth.{Extends}
use Rattle.pdl_lockapi.specs.Laws.{step_signals}
use Rattle.pdl_lock_ring.specs.Asks.{IsAsked}
use Rattle.pdl_lock_ring.proofs.taken.emit_asked.Given as goal

abbrev pub invariant-loop-k : goal.invariant-loop-k
invariant-loop-k l = record {
  extends : Extends l.fn.b l.b;
  asked : IsAsked l.b l.l (step_signals l.fn.b l.p) l.k l.asked;
}
