use Rattle.std.proofs.Common.{◌≡◌, sym, ◌∙◌}
use Rattle.pdl_net.specs.Meaning.{signal}
use Rattle.pdl_net.specs.Growth.{Extends}
use Rattle.pdl_net.proofs.Keeps.{extends_trans}
use Rattle.pdl_lock_ring.proofs.RingGrowth.{same_mux, same_bin, later_is}
use Rattle.pdl_lock_ring.proofs.Ends.{release2_is}
use Rattle.pdl_rename.proofs.map.emit_word.Goals as goal

pub returns-clause-next : goal.returns-clause-next
returns-clause-next c =
    let a = c.args.b.now in
    let b1 = c.emit_first_word.new.b in
    let b2 = c.constant.new.self in
    let b3 = c.bin.new.self in
    let b4 = c.mux.new.self in
    let p = c.args.p.now in
    let h = c.requires.oldest in
    let first = c.in_ok-first.ensures.means in
    let x1 = c.in_ok-first.ensures.extends in
    let x2 = c.in_ok-number.ensures.extends in
    let x3 = c.in_ok-same.ensures.extends in
    let x4 = c.in_ok-here.ensures.extends in
    let x02 : Extends a b2 = extends_trans a b1 b2 x1 x2 in
    let x03 : Extends a b3 = extends_trans a b2 b3 x02 x3 in
    let x04 : Extends a b4 = extends_trans a b3 b4 x03 x4 in
    let x13 : Extends b1 b3 = extends_trans b1 b2 b3 x2 x3 in
    let x14 : Extends b1 b4 = extends_trans b1 b3 b4 x13 x4 in
    let same : signal b3 c.in_ok-same.same ≡ _ =
    c.in_ok-same.ensures.means.same ∙ same_bin _ _ _ _ _ (later_is a b2 _ _ x02 h.addr2) c.in_ok-number.ensures.means.same in
    let here : signal b4 c.in_ok-here.here ≡ _ =
    c.in_ok-here.ensures.means.same ∙ same_mux _ _ _ _ _ _ same (later_is a b3 _ _ x03 h.content2) (later_is b1 b3 _ _ x13 first) in
    c.next.ensures.set ∙ c.in_ok-next.ensures.means.same
    ∙ same_mux _ _ _ _ _ _ (x04.kept p.release2 c.requires.given.ports.release2 ∙ sym (release2_is a p)) here (later_is b1 b4 _ _ x14 first)
