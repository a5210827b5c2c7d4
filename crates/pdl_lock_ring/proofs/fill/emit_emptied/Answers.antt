use Rattle.std.proofs.Common.{◌≡◌, sym, ap, ◌∙◌}
use Rattle.pdl_net.specs.declared.BinOp.TheVariants.{Eq}
use Rattle.pdl_net.specs.declared.Net.TheVariants.{Reg}
use Rattle.pdl_net.specs.Signal.{Signal, bin_signal}
use Rattle.pdl_net.specs.Growth.{Extends}
use Rattle.pdl_net.specs.Meaning.{signal}
use Rattle.pdl_net.proofs.Keeps.{extends_trans, extends_keeps}
use Rattle.pdl_lockapi.specs.Laws.{StepSignals, step_signals}
use Rattle.pdl_lockapi.proofs.LockGrowth.{same_signals}
use Rattle.pdl_lock_ring.specs.Slots.{has_at}
use Rattle.pdl_lock_ring.specs.Steps.{first_slot, second_slot, takes_first, takes_second}
use Rattle.pdl_lock_ring.proofs.RingGrowth.{means_as, same_mux, same_bin, later_is}
use Rattle.pdl_lock_ring.proofs.Fills.{bit_none}
use Rattle.pdl_lock_ring.proofs.fill.emit_emptied.Goals as goal

pub returns-clause-means : goal.returns-clause-means
returns-clause-means c =
    let a = c.args.b.now in
    let b0 = c.emit_number.new.b in
    let b1 = c.emit_takes.new.b in
    let b2 = c.constant.new.self in
    let b3 = c.mux.new.self in
    let l = c.args.l in
    let k = c.args.k in
    let p = c.args.p.now in
    let f = step_signals a p in
    let r = c.requires.ready in
    let x0 = c.in_ok-slot.ensures.extends in
    let x1 = c.in_ok-first.ensures.extends in
    let x2 = c.in_ok-zero.ensures.extends in
    let x3 = c.in_ok-kept.ensures.extends in
    let x02 : Extends a b2 = extends_trans a b0 b2 x0 (extends_trans b0 b1 b2 x1 x2) in
    let x23 : Extends b1 b3 = extends_trans b1 b2 b3 x2 x3 in
    let s : step_signals b0 p ≡ f = same_signals a b0 p r.given.ports (extends_keeps a b0 x0) in
    let e = r.given.slots in
    let old = x02.kept (Reg (has_at l k)) (e.has_there k c.requires.slot_in) ∙ e.holds k c.requires.slot_in in
    let zero = c.in_ok-zero.ensures.means in
    let slot = c.in_ok-slot.ensures.means.same in
    let first : signal b1 c.in_ok-first.first ≡ takes_first l f k =
    c.in_ok-first.ensures.first.same ∙ same_bin Eq _ _ _ _ (ap (λ (g : StepSignals). first_slot l g) s) slot in
    let second : signal b1 c.in_ok-first.second ≡ takes_second l f k =
    c.in_ok-first.ensures.second.same ∙ same_bin Eq _ _ _ _ (ap (λ (g : StepSignals). second_slot l g) s) slot in
    let kept = c.in_ok-kept.ensures.means.same ∙ same_mux _ _ _ _ _ _ (x2.kept _ c.in_ok-first.ensures.first.there ∙ first) zero.same old in
    means_as c.mux-2.new.self _ _ _ c.in_ok-bit.ensures.means
    (same_mux _ _ _ _ _ _ (x23.kept _ c.in_ok-first.ensures.second.there ∙ second) (later_is b2 b3 _ _ x3 zero) kept ∙ sym (bit_none l f k))
