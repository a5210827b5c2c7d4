use Rattle.std.proofs.Common.{◌≡◌, ◌+◌, ◌*◌, inl, subst, arith}
use Rattle.pdl_net.proofs.Keeps.{but_keeps, but_trans}
use Rattle.pdl_lockapi.specs.Laws.{step_signals}
use Rattle.pdl_lockapi.proofs.LockGrowth.{same_signals}
use Rattle.pdl_lock_ring.specs.Steps.{NextBits, own_addrs, own_bits, own_slots}
use Rattle.pdl_lock_ring.proofs.RingGrowth.{slots_kept_but, ready_kept_but}
use Rattle.pdl_lock_ring.proofs.StepCalls.{row_in_row, addrs_kept}
use Rattle.pdl_lock_ring.proofs.slot.emit_slots.Goals as goal

pub emit_bits-requires : goal.emit_bits-requires
emit_bits-requires c =
    record {
      ready = ready_kept_but
          (own_addrs c.args.l) c.args.b.now c.emit_addrs.new.b c.args.l c.args.p.now c.args.t c.requires.ready c.in_ok-emit_addrs.ensures.extends;
    }

pub returns-clause-addrs : goal.returns-clause-addrs
returns-clause-addrs c =
    let a = c.args.b.now in
    let b = c.emit_addrs.new.b in
    let d = c.emit_bits.new.b in
    let l = c.args.l in
    addrs_kept (own_bits l) b d l (step_signals a c.args.p.now) l.size (omega arith) (λ k lt. inl (omega (arith, lt)))
    (slots_kept_but
    (own_addrs l) a b l c.requires.ready.given.slots c.in_ok-emit_addrs.ensures.extends) c.in_ok-emit_addrs.ensures.next c.in_ok-emit_bits.ensures.extends

pub returns-clause-bits : goal.returns-clause-bits
returns-clause-bits c =
    let a = c.args.b.now in
    let b = c.emit_addrs.new.b in
    let d = c.emit_bits.new.b in
    let l = c.args.l in
    let p = c.args.p.now in
    let s : step_signals b p ≡ step_signals a p =
    same_signals a b p c.requires.ready.given.ports (but_keeps (own_addrs l) a b c.in_ok-emit_addrs.ensures.extends) in
    subst (λ g. NextBits d l g l.size) s c.in_ok-emit_bits.ensures.next

pub returns-clause-extends : goal.returns-clause-extends
returns-clause-extends c =
    let a = c.args.b.now in
    let b = c.emit_addrs.new.b in
    let d = c.emit_bits.new.b in
    let l = c.args.l in
    but_trans (own_slots l) a b d (row_in_row (l.from + 2) (2 * l.size) (l.from + 2) l.size a b (omega arith) (omega arith) c.in_ok-emit_addrs.ensures.extends)
    (row_in_row (l.from + 2) (2 * l.size) (l.from + 2 + l.size) l.size b d (omega arith) (omega arith) c.in_ok-emit_bits.ensures.extends)
