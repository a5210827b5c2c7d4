use Rattle.std.proofs.Common.{sym, ◌∙◌}
use Rattle.pdl_net.specs.Growth.{Extends}
use Rattle.pdl_net.specs.Meaning.{signal}
use Rattle.pdl_net.proofs.Keeps.{extends_trans}
use Rattle.pdl_lockapi.specs.Laws.{step_signals}
use Rattle.pdl_lock_ring.proofs.RingGrowth.{means_as, same_mux, later_is}
use Rattle.pdl_lock_ring.proofs.Fills.{reserved_addr_is}
use Rattle.pdl_lock_ring.proofs.fill.emit_reserved.Goals as goal

pub returns-clause-means : goal.returns-clause-means
returns-clause-means c =
    let a = c.args.b.now in
    let b1 = c.emit_takes.new.b in
    let b2 = c.mux.new.self in
    let l = c.args.l in
    let f = step_signals a c.args.p.now in
    let r = c.requires.ready in
    let x1 = c.in_ok-first.ensures.extends in
    let x2 = c.in_ok-kept.ensures.extends in
    let x12 : Extends a b2 = extends_trans a b1 b2 x1 x2 in
    let old = x1.kept c.args.addr c.requires.addr.there in
    let kept = c.in_ok-kept.ensures.means.same ∙ same_mux _ _ _ _ _ _ c.in_ok-first.ensures.first.same (later_is a b1 c.args.t.first _ x1 r.first) old in
    means_as c.mux-2.new.self _ _ _ c.in_ok-addr.ensures.means
    (same_mux _ _ _ _ _ _ (later_is b1 b2 _ _ x2 c.in_ok-first.ensures.second) (later_is a b2 c.args.t.second _ x12 r.second) kept
    ∙ sym (reserved_addr_is l f (signal a c.args.addr) (signal a c.args.slot)))
