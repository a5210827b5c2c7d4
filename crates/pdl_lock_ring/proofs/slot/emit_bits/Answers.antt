use Rattle.std.proofs.Common.{◌≡◌, ◌∙◌, ◌+◌, ◌<◌, ap, arith}
use Rattle.pdl_net.proofs.Keeps.{but_keeps, but_trans, but_extends, extends_refl}
use Rattle.pdl_lockapi.specs.Laws.{StepSignals, step_signals}
use Rattle.pdl_lockapi.proofs.LockGrowth.{same_signals}
use Rattle.pdl_lock_ring.specs.Slots.{has_at}
use Rattle.pdl_lock_ring.specs.Steps.{own_bits, slot_bit}
use Rattle.pdl_lock_ring.proofs.RingGrowth.{slots_kept_but, ready_kept_but}
use Rattle.pdl_lock_ring.proofs.StepCalls.{reg_in_row, bits_none, bits_more}
use Rattle.pdl_lock_ring.proofs.slot.emit_bits.Goals as goal

pub loop-k-init : goal.loop-k-init
loop-k-init c = record {
  extends = but_extends (own_bits c.args.l) c.args.b.now c.args.b.now (extends_refl c.args.b.now);
  next = bits_none c.args.b.now c.args.l (step_signals c.args.b.now c.args.p.now);
}

pub emit_next_bit-requires-clause-ready : goal.emit_next_bit-requires-clause-ready
emit_next_bit-requires-clause-ready c =
    ready_kept_but (own_bits c.args.l) c.args.b.now c.loop-k.b c.args.l c.args.p.now c.args.t c.requires.ready c.loop-k.invariant.extends

pub loop-k-preserved : goal.loop-k-preserved
loop-k-preserved c =
    let a = c.args.b.now in
    let b = c.loop-k.b in
    let d = c.emit_next_bit.new.b in
    let l = c.args.l in
    let p = c.args.p.now in
    let k = c.loop-k.k in
    let x = c.loop-k.invariant.extends in
    let y = c.in_ok-emit_next_bit.ensures.extends in
    let s : step_signals b p ≡ step_signals a p = same_signals a b p c.requires.ready.given.ports (but_keeps (own_bits l) a b x) in
    let lt : k < l.size = omega arith in
    record {
      extends = but_trans (own_bits l) a b d x (reg_in_row (l.from + 2 + l.size) l.size (has_at l k) b d (omega arith) (omega (arith, lt)) y);
      next =
          bits_more b d l (step_signals a p) k lt
          (slots_kept_but (own_bits l) a b l c.requires.ready.given.slots x) c.loop-k.invariant.next y
          (c.in_ok-emit_next_bit.ensures.next ∙ ap (λ (g : StepSignals). slot_bit l g k) s);
    }
