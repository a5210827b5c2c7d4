use Rattle.std.proofs.Common.{◌≡◌, ◌+◌, length, sym, ◌∙◌}
use Rattle.pdl_net.specs.declared.Net.TheVariants.{Reg}
use Rattle.pdl_net.specs.Meaning.{signal}
use Rattle.pdl_net.specs.Growth.{Extends}
use Rattle.pdl_net.proofs.Keeps.{extends_trans}
use Rattle.pdl_net.proofs.KeptWidths.{width_kept, width_meant}
use Rattle.pdl_lockapi.specs.Laws.{step_signals}
use Rattle.pdl_lock_ring.proofs.RingGrowth.{means_as, same_mux, same_bin, later_is}
use Rattle.pdl_lock_ring.proofs.Reserves.{push_width, push2_width}
use Rattle.pdl_lock_ring.proofs.Ends.{squash_is, tail_is, tail_after_is}
use Rattle.pdl_lock_ring.proofs.step.emit_tail.Goals as goal

pub mux-requires-clause-choice : goal.mux-requires-clause-choice
mux-requires-clause-choice c =
    let a = c.args.b.now in
    let b1 = c.emit_ticket2.new.b in
    let b2 = c.constant.new.self in
    let b3 = c.bin.new.self in
    let f = step_signals a c.args.p.now in
    let x : Extends a b3 =
    extends_trans a b1 b3 c.in_ok-next.ensures.extends (extends_trans b1 b2 b3 c.in_ok-one.ensures.extends c.in_ok-after.ensures.extends) in
    width_kept a b3 _ 1 x (width_meant a _ _ 1 c.requires.ready.one (push_width f (length f.reserves)))

pub mux-requires-2-clause-choice : goal.mux-requires-2-clause-choice
mux-requires-2-clause-choice c =
    let a = c.args.b.now in
    let b1 = c.emit_ticket2.new.b in
    let b2 = c.constant.new.self in
    let b3 = c.bin.new.self in
    let b4 = c.mux.new.self in
    let f = step_signals a c.args.p.now in
    let x3 : Extends a b3 =
    extends_trans a b1 b3 c.in_ok-next.ensures.extends (extends_trans b1 b2 b3 c.in_ok-one.ensures.extends c.in_ok-after.ensures.extends) in
    let x : Extends a b4 = extends_trans a b3 b4 x3 c.in_ok-kept.ensures.extends in
    width_kept a b4 _ 1 x (width_meant a _ _ 1 c.requires.ready.two (push2_width f (length f.reserves)))

pub returns-clause-means : goal.returns-clause-means
returns-clause-means c =
    let a = c.args.b.now in
    let b1 = c.emit_ticket2.new.b in
    let b2 = c.constant.new.self in
    let b3 = c.bin.new.self in
    let b4 = c.mux.new.self in
    let b5 = c.mux-2.new.self in
    let l = c.args.l in
    let p = c.args.p.now in
    let f = step_signals a p in
    let r = c.requires.ready in
    let h = r.given in
    let next = c.in_ok-next.ensures.means in
    let x1 = c.in_ok-next.ensures.extends in
    let x2 = c.in_ok-one.ensures.extends in
    let x3 = c.in_ok-after.ensures.extends in
    let x4 = c.in_ok-kept.ensures.extends in
    let x5 = c.in_ok-pushed.ensures.extends in
    let x23 : Extends b1 b3 = extends_trans b1 b2 b3 x2 x3 in
    let x13 : Extends a b3 = extends_trans a b1 b3 x1 x23 in
    let x14 : Extends a b4 = extends_trans a b3 b4 x13 x4 in
    let x15 : Extends a b5 = extends_trans a b4 b5 x14 x5 in
    let after : signal b4 c.in_ok-after.after ≡ _ =
    later_is b3 b4 _ _ x4 c.in_ok-after.ensures.means ∙ same_bin _ _ _ _ _ (later_is b1 b2 _ _ x2 next) c.in_ok-one.ensures.means.same in
    let kept : signal b4 c.in_ok-kept.kept ≡ _ =
    c.in_ok-kept.ensures.means.same
    ∙ same_mux _ _ _ _ _ _ (later_is a b3 _ _ x13 r.one) (later_is b1 b3 _ _ x23 next) (x13.kept (Reg (l.from + 1)) h.slots.tail_there ∙ h.slots.tail) in
    let pushed : signal b5 c.in_ok-pushed.pushed ≡ _ = c.in_ok-pushed.ensures.means.same ∙ same_mux _ _ _ _ _ _ (later_is a b4 _ _ x14 r.two) after kept in
    means_as c.mux-3.new.self _ _ _ c.in_ok-tail.ensures.means
    (same_mux _ _ _ _ _ _ (x15.kept p.squash h.ports.squash ∙ sym (squash_is a p)) (x15.kept p.tail h.ports.tail ∙ sym (tail_is a p)) pushed
    ∙ sym (tail_after_is l f))
