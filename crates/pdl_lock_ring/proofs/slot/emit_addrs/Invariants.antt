use Rattle.pdl_net.specs.Growth.{ExtendsBut}
use Rattle.pdl_lockapi.specs.Laws.{step_signals}
use Rattle.pdl_lock_ring.specs.Steps.{NextAddrs, own_addrs}
use Rattle.pdl_lock_ring.proofs.slot.emit_addrs.Given as goal

abbrev pub invariant-loop-k : goal.invariant-loop-k
invariant-loop-k l = record {
  extends : ExtendsBut (own_addrs l.l) l.fn.b l.b;
  next : NextAddrs l.b l.l (step_signals l.fn.b l.p) l.k;
}
