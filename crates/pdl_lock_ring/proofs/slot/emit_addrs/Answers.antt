use Rattle.std.proofs.Common.{◌≡◌, ◌∙◌, ◌+◌, ◌<◌, ap, arith}
use Rattle.pdl_net.proofs.Keeps.{but_keeps, but_trans, but_extends, extends_refl}
use Rattle.pdl_lockapi.specs.Laws.{StepSignals, step_signals}
use Rattle.pdl_lockapi.proofs.LockGrowth.{same_signals}
use Rattle.pdl_lock_ring.specs.Slots.{addr_at}
use Rattle.pdl_lock_ring.specs.Steps.{own_addrs, slot_addr}
use Rattle.pdl_lock_ring.proofs.RingGrowth.{slots_kept_but, ready_kept_but}
use Rattle.pdl_lock_ring.proofs.StepCalls.{reg_in_row, addrs_none, addrs_more}
use Rattle.pdl_lock_ring.proofs.slot.emit_addrs.Goals as goal

pub loop-k-init : goal.loop-k-init
loop-k-init c = record {
  extends = but_extends (own_addrs c.args.l) c.args.b.now c.args.b.now (extends_refl c.args.b.now);
  next = addrs_none c.args.b.now c.args.l (step_signals c.args.b.now c.args.p.now);
}

pub emit_next_addr-requires-clause-ready : goal.emit_next_addr-requires-clause-ready
emit_next_addr-requires-clause-ready c =
    ready_kept_but (own_addrs c.args.l) c.args.b.now c.loop-k.b c.args.l c.args.p.now c.args.t c.requires.ready c.loop-k.invariant.extends

pub loop-k-preserved : goal.loop-k-preserved
loop-k-preserved c =
    let a = c.args.b.now in
    let b = c.loop-k.b in
    let d = c.emit_next_addr.new.b in
    let l = c.args.l in
    let p = c.args.p.now in
    let k = c.loop-k.k in
    let x = c.loop-k.invariant.extends in
    let y = c.in_ok-emit_next_addr.ensures.extends in
    let s : step_signals b p ≡ step_signals a p = same_signals a b p c.requires.ready.given.ports (but_keeps (own_addrs l) a b x) in
    let lt : k < l.size = omega arith in
    record {
      extends = but_trans (own_addrs l) a b d x (reg_in_row (l.from + 2) l.size (addr_at l k) b d (omega arith) (omega (arith, lt)) y);
      next =
          addrs_more b d l (step_signals a p) k lt
          (slots_kept_but (own_addrs l) a b l c.requires.ready.given.slots x) c.loop-k.invariant.next y
          (c.in_ok-emit_next_addr.ensures.next ∙ ap (λ (g : StepSignals). slot_addr l g k) s);
    }
