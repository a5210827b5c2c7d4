use Rattle.std.proofs.Common.{◌≡◌, sym, ◌∙◌}
use Rattle.pdl_net.specs.declared.Net.TheVariants.{Reg}
use Rattle.pdl_net.specs.Meaning.{signal}
use Rattle.pdl_net.specs.Growth.{Extends}
use Rattle.pdl_net.proofs.Keeps.{extends_trans}
use Rattle.pdl_lockapi.specs.Laws.{step_signals}
use Rattle.pdl_lock_ring.proofs.RingGrowth.{means_as, same_mux, same_bin, later_is}
use Rattle.pdl_lock_ring.proofs.Ends.{release_is, release2_is, head_is}
use Rattle.pdl_lock_ring.proofs.step.emit_head.Goals as goal

pub returns-clause-means : goal.returns-clause-means
returns-clause-means c =
    let a = c.args.b.now in
    let b1 = c.emit_next_head.new.b in
    let b2 = c.constant.new.self in
    let b3 = c.bin.new.self in
    let b4 = c.mux.new.self in
    let l = c.args.l in
    let p = c.args.p.now in
    let f = step_signals a p in
    let h = c.requires.given in
    let next = c.in_ok-next.ensures.means in
    let x1 = c.in_ok-next.ensures.extends in
    let x2 = c.in_ok-one.ensures.extends in
    let x3 = c.in_ok-after.ensures.extends in
    let x4 = c.in_ok-kept.ensures.extends in
    let x23 : Extends b1 b3 = extends_trans b1 b2 b3 x2 x3 in
    let x13 : Extends a b3 = extends_trans a b1 b3 x1 x23 in
    let x14 : Extends a b4 = extends_trans a b3 b4 x13 x4 in
    let after : signal b4 c.in_ok-after.after ≡ _ =
    later_is b3 b4 _ _ x4 c.in_ok-after.ensures.means ∙ same_bin _ _ _ _ _ (later_is b1 b2 _ _ x2 next) c.in_ok-one.ensures.means.same in
    let kept : signal b4 c.in_ok-kept.kept ≡ _ =
    c.in_ok-kept.ensures.means.same
    ∙ same_mux _ _ _ _ _ _ (x13.kept p.release h.ports.release ∙ sym (release_is a p)) (later_is b1 b3 _ _ x23 next)
    (x13.kept (Reg l.from) h.slots.head_there ∙ h.slots.head) in
    means_as c.mux-2.new.self _ _ _ c.in_ok-head.ensures.means
    (same_mux _ _ _ _ _ _ (x14.kept p.release2 h.ports.release2 ∙ sym (release2_is a p)) after kept ∙ sym (head_is l f))
