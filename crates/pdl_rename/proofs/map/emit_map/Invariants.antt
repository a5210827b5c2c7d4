use Rattle.pdl_net.specs.Growth.{ExtendsBut}
use Rattle.pdl_lockapi.specs.Laws.{step_signals}
use Rattle.pdl_rename.specs.Nets.{NextMap, own_map}
use Rattle.pdl_rename.proofs.map.emit_map.Given as goal

abbrev pub invariant-loop-a : goal.invariant-loop-a
invariant-loop-a l = record {
  extends : ExtendsBut (own_map l.l) l.fn.b l.b;
  next : NextMap l.b l.l (step_signals l.fn.b l.p) l.a;
}
