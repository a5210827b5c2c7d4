use Rattle.std.proofs.Common.{◌≡◌, ◌∙◌}
use Rattle.pdl_net.specs.declared.Net.TheVariants.{Reg}
use Rattle.pdl_net.specs.Meaning.{signal}
use Rattle.pdl_net.proofs.Keeps.{extends_keeps}
use Rattle.pdl_lockapi.specs.Laws.{step_signals}
use Rattle.pdl_lockapi.proofs.LockGrowth.{same_signals}
use Rattle.pdl_lock_ring.specs.Slots.{value_at, content_signal}
use Rattle.pdl_lock_ring.proofs.RingGrowth.{means_as}
use Rattle.pdl_lock_ring.proofs.Fills.{same_content}
use Rattle.pdl_lock_ring.proofs.fill.emit_content.Goals as goal

pub returns-clause-content : goal.returns-clause-content
returns-clause-content c =
    let a = c.args.b.now in
    let b1 = c.emit_number.new.b in
    let l = c.args.l in
    let k = c.args.k in
    let p = c.args.p.now in
    let x = c.in_ok-slot.ensures.extends in
    let e = c.requires.given.slots in
    let s : step_signals b1 p ≡ step_signals a p = same_signals a b1 p c.requires.given.ports (extends_keeps a b1 x) in
    let old : signal b1 (Reg (value_at l k)) ≡ content_signal l k =
    x.kept (Reg (value_at l k)) (e.value_there k c.requires.slot_in) ∙ e.value k c.requires.slot_in in
    means_as c.emit_filled.new.b c.in_ok-content.content _ _ c.in_ok-content.ensures.content (same_content l _ _ _ _ _ _ s old c.in_ok-slot.ensures.means.same)
