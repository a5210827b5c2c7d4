use Rattle.pdl_net.specs.Growth.{ExtendsBut}
use Rattle.pdl_port.specs.Laws.{step_signals}
use Rattle.pdl_port.specs.Nets.{NextPlaces, own_places}
use Rattle.pdl_port.proofs.step.emit_places.Given as goal

abbrev pub invariant-loop-k : goal.invariant-loop-k
invariant-loop-k l = record {
  extends : ExtendsBut (own_places l.l) l.fn.b l.b;
  next : NextPlaces l.b l.l (step_signals l.fn.b l.r l.p) l.k;
}
