use Rattle.std.proofs.Common.{◌≡◌, ◌-◌, ap, ◌∙◌, refl}
use Rattle.pdl_net.specs.Signal.{Signal, reg_signal}
use Rattle.pdl_net.specs.Growth.{Extends}
use Rattle.pdl_net.specs.Meaning.{signal}
use Rattle.pdl_net.proofs.Keeps.{extends_keeps, extends_trans, means_kept}
use Rattle.pdl_net.proofs.KeptWidths.{width_meant}
use Rattle.pdl_lockapi.specs.Laws.{step_signals}
use Rattle.pdl_lockapi.proofs.LockGrowth.{same_signals}
use Rattle.pdl_lock_ring.specs.declared.choice.Registers.{Registers}
use Rattle.pdl_lock_ring.specs.Registers.{register_of, row_of}
use Rattle.pdl_lock_ring.specs.Choices.{selected_signal}
use Rattle.pdl_lock_ring.specs.Looks.{slot_of}
use Rattle.pdl_lock_ring.specs.Steps.{at_ticket}
use Rattle.pdl_lock_ring.specs.Slots.{addr_at}
use Rattle.pdl_lock_ring.proofs.Fills.{same_reserved}
use Rattle.pdl_lock_ring.proofs.RingGrowth.{means_as}
use Rattle.pdl_lock_ring.proofs.Sizes.{few_bits}
use Rattle.pdl_lock_ring.proofs.Trees.{selected_width}
use Rattle.pdl_lock_ring.proofs.slot.emit_addr_of.Goals as goal

pub emit_register-requires-clause-bits : goal.emit_register-requires-clause-bits
emit_register-requires-clause-bits c = few_bits c.args.l c.requires.ready.given.sized

pub emit_reserved-requires-clause-addr : goal.emit_reserved-requires-clause-addr
emit_reserved-requires-clause-addr c =
    let b1 = c.emit_register.new.b in
    let b2 = c.emit_slot_of.new.b in
    let l = c.args.l in
    let m = c.in_ok-addr.ensures.means in
    let w : (selected_signal (register_of c.addr_registers-addrs.result) (signal c.args.b.now c.args.ticket) (l.ticket - 1) 0).width ≡ l.bits =
    selected_width (register_of c.addr_registers-addrs.result) (signal c.args.b.now c.args.ticket) l.bits
    (λ k. ap (λ (r : Registers). r.width) c.addr_registers-addrs.ensures) (l.ticket - 1) 0 in
    width_meant b2 c.in_ok-addr.addr _ l.bits (means_kept b1 b2 c.in_ok-addr.addr _ c.in_ok-slot.ensures.extends m) w

pub returns-clause-means : goal.returns-clause-means
returns-clause-means c =
    let a = c.args.b.now in
    let b1 = c.emit_register.new.b in
    let b2 = c.emit_slot_of.new.b in
    let l = c.args.l in
    let p = c.args.p.now in
    let t = signal a c.args.ticket in
    let x1 = c.in_ok-addr.ensures.extends in
    let x2 = c.in_ok-slot.ensures.extends in
    let x12 : Extends a b2 = extends_trans a b1 b2 x1 x2 in
    let s : step_signals b2 p ≡ step_signals a p = same_signals a b2 p c.requires.ready.given.ports (extends_keeps a b2 x12) in
    let addr : signal b2 c.in_ok-addr.addr ≡ at_ticket l (λ k. reg_signal l.bits (addr_at l k)) t =
    x2.kept c.in_ok-addr.addr c.in_ok-addr.ensures.means.there ∙ c.in_ok-addr.ensures.means.same
    ∙ ap (λ (r : Registers). selected_signal (register_of r) t (l.ticket - 1) 0) c.addr_registers-addrs.ensures in
    let slot : signal b2 c.in_ok-slot.slot ≡ slot_of l t =
    c.in_ok-slot.ensures.means.same ∙ ap (slot_of l) (x1.kept c.args.ticket c.requires.ticket.there) in
    means_as c.emit_reserved.new.b c.in_ok-reserved.reserved _ _ c.in_ok-reserved.ensures.means (same_reserved l _ _ _ _ _ _ s addr slot)
