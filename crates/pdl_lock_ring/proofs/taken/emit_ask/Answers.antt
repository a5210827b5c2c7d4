use Rattle.std.proofs.Common.{◌≡◌, ap, sym, subst, ◌∙◌}
use Rattle.pdl_net.specs.Signal.{Signal}
use Rattle.pdl_net.specs.Meaning.{Means, signal}
use Rattle.pdl_net.specs.Growth.{Extends}
use Rattle.pdl_net.proofs.Keeps.{extends_trans}
use Rattle.pdl_lockapi.specs.Laws.{ReserveSignal, enabled_reserve, step_signals, reserve_at, reserve_signal}
use Rattle.pdl_lock_ring.proofs.RingGrowth.{means_as, same_mux, later_is}
use Rattle.pdl_lock_ring.proofs.Reserves.{taken_means, reserve_is, push_width, push2_width}
use Rattle.pdl_lock_ring.proofs.taken.emit_ask.Goals as goal

pub mux-requires-clause-widths : goal.mux-requires-clause-widths
mux-requires-clause-widths c =
    let a = c.args.b.now in
    let b1 = c.constant.new.self in
    let b2 = c.constant-2.new.self in
    let f = step_signals a c.args.p.now in
    let x : Extends a b2 = extends_trans a b1 b2 c.in_ok-one.ensures.extends c.in_ok-zero.ensures.extends in
    ap (λ (g : Signal). g.width) (later_is a b2 _ _ x c.requires.asked.one) ∙ push_width f c.args.k
    ∙ sym (ap (λ (g : Signal). g.width) (later_is a b2 _ _ x c.requires.asked.two) ∙ push2_width f c.args.k)

pub mux-requires-2-clause-widths : goal.mux-requires-2-clause-widths
mux-requires-2-clause-widths c =
    let a = c.args.b.now in
    let b1 = c.constant.new.self in
    let b2 = c.constant-2.new.self in
    let b3 = c.mux.new.self in
    let f = step_signals a c.args.p.now in
    let x13 : Extends b1 b3 = extends_trans b1 b2 b3 c.in_ok-zero.ensures.extends c.in_ok-two.ensures.extends in
    let x03 : Extends a b3 = extends_trans a b1 b3 c.in_ok-one.ensures.extends x13 in
    ap (λ (g : Signal). g.width) (later_is b1 b3 _ _ x13 c.in_ok-one.ensures.means)
    ∙ sym (ap (λ (g : Signal). g.width) (later_is a b3 _ _ x03 c.requires.asked.one) ∙ push_width f c.args.k)

pub returns-clause-asked : goal.returns-clause-asked
returns-clause-asked c =
    let a = c.args.b.now in
    let b1 = c.constant.new.self in
    let b2 = c.constant-2.new.self in
    let b3 = c.mux.new.self in
    let b4 = c.mux-2.new.self in
    let b5 = c.mux-3.new.self in
    let b6 = c.mux-4.new.self in
    let p = c.args.p.now in
    let k = c.args.k in
    let q = c.reserve_port-port.result in
    let at = c.reserve_port-port.ensures in
    let y = c.requires.asked in
    let h = c.requires.given in
    let z = reserve_at (step_signals a p).reserves k in
    let r : z ≡ reserve_signal a q = reserve_is a p k q c.requires.within at in
    let x1 = c.in_ok-one.ensures.extends in
    let x2 = c.in_ok-zero.ensures.extends in
    let x3 = c.in_ok-two.ensures.extends in
    let x4 = c.in_ok-one-2.ensures.extends in
    let x5 = c.in_ok-last.ensures.extends in
    let x6 = c.in_ok-before.ensures.extends in
    let x02 : Extends a b2 = extends_trans a b1 b2 x1 x2 in
    let x23 : Extends b2 b3 = x3 in
    let x24 : Extends b2 b4 = extends_trans b2 b3 b4 x3 x4 in
    let x25 : Extends b2 b5 = extends_trans b2 b4 b5 x24 x5 in
    let x13 : Extends b1 b3 = extends_trans b1 b2 b3 x2 x3 in
    let x03 : Extends a b3 = extends_trans a b2 b3 x02 x3 in
    let x04 : Extends a b4 = extends_trans a b2 b4 x02 x24 in
    let x05 : Extends a b5 = extends_trans a b2 b5 x02 x25 in
    let x56 : Extends b5 b6 = x6 in
    let x46 : Extends b4 b6 = extends_trans b4 b5 b6 x5 x6 in
    let x36 : Extends b3 b6 = extends_trans b3 b4 b6 x4 x46 in
    let there = h.ports.ask k q c.requires.within at in
    let on : Means b2 c.by_kind-enable.result z.enable =
    means_as b2 _ (enabled_reserve q.kind (signal b2 q.enable)) _
    (subst (λ n. Means b2 n (enabled_reserve q.kind (signal b2 q.enable))) (sym c.by_kind-enable.ensures)
    (taken_means b2 q.kind c.in_ok-zero.zero q.enable c.in_ok-zero.ensures.means (x02.there _ there)))
    (ap (enabled_reserve q.kind) (x02.kept _ there) ∙ ap (λ (g : ReserveSignal). g.enable) (sym r)) in
    let addr : signal b4 q.addr ≡ z.addr = x04.kept _ (h.ports.addr k q c.requires.within at) ∙ ap (λ (g : ReserveSignal). g.addr) (sym r) in
    let two = means_as b3 _ _ _ c.in_ok-two.ensures.means (same_mux _ _ _ _ _ _ on.same (x02.kept _ y.one.there) (x02.kept _ y.two.there)) in
    let one =
    means_as b4 _ _ _ c.in_ok-one-2.ensures.means
    (same_mux _ _ _ _ _ _ (later_is b2 b3 _ _ x23 on) (later_is b1 b3 _ _ x13 c.in_ok-one.ensures.means) (x03.kept _ y.one.there)) in
    let last = means_as b5 _ _ _ c.in_ok-last.ensures.means (same_mux _ _ _ _ _ _ (later_is b2 b4 _ _ x24 on) addr (x04.kept _ y.last.there)) in
    let before =
    means_as b6 _ _ _ c.in_ok-before.ensures.means
    (same_mux _ _ _ _ _ _ (later_is b2 b5 _ _ x25 on) (x05.kept _ y.last.there) (x05.kept _ y.before.there)) in
    record {
      one = record { there = x46.there _ one.there; same = later_is b4 b6 _ _ x46 one };
      two = record { there = x36.there _ two.there; same = later_is b3 b6 _ _ x36 two };
      last = record { there = x56.there _ last.there; same = later_is b5 b6 _ _ x56 last };
      before = before;
      last_wide =
          ap (λ (g : Signal). g.width) (later_is b5 b6 _ _ x56 last) ∙ ap (λ (g : ReserveSignal). g.addr.width) r ∙ h.fit.addr_width k q c.requires.within at;
      before_wide = ap (λ (g : Signal). g.width) before.same ∙ y.last_wide;
    }
