use Rattle.std.proofs.Common.{◌≡◌, ap, ◌∙◌}
use Rattle.pdl_net.specs.declared.Net.TheVariants.{Reg}
use Rattle.pdl_net.specs.Signal.{reg_signal}
use Rattle.pdl_net.specs.Meaning.{signal}
use Rattle.pdl_net.proofs.Keeps.{extends_keeps}
use Rattle.pdl_lockapi.specs.Laws.{step_signals}
use Rattle.pdl_lockapi.proofs.LockGrowth.{same_signals}
use Rattle.pdl_lock_ring.specs.Slots.{addr_at}
use Rattle.pdl_lock_ring.proofs.RingGrowth.{means_as}
use Rattle.pdl_lock_ring.proofs.Fills.{same_reserved}
use Rattle.pdl_lock_ring.proofs.fill.emit_addr.Goals as goal

pub returns-clause-means : goal.returns-clause-means
returns-clause-means c =
    let a = c.args.b.now in
    let b1 = c.emit_number.new.b in
    let l = c.args.l in
    let k = c.args.k in
    let p = c.args.p.now in
    let x = c.in_ok-slot.ensures.extends in
    let e = c.requires.ready.given.slots in
    let s : step_signals b1 p ≡ step_signals a p = same_signals a b1 p c.requires.ready.given.ports (extends_keeps a b1 x) in
    let old : signal b1 (Reg (addr_at l k)) ≡ reg_signal l.bits (addr_at l k) =
    x.kept (Reg (addr_at l k)) (e.addr_there k c.requires.slot_in) ∙ e.addr k c.requires.slot_in in
    means_as c.emit_reserved.new.b c.in_ok-addr.addr _ _ c.in_ok-addr.ensures.means (same_reserved l _ _ _ _ _ _ s old c.in_ok-slot.ensures.means.same)
