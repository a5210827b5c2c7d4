use Rattle.std.proofs.Common.{◌≡◌, ◌+◌, length, refl, ap, sym, subst, ◌∙◌}
use Rattle.pdl_net.specs.declared.Net.TheVariants.{Reg}
use Rattle.pdl_net.specs.Signal.{Signal, const_signal}
use Rattle.pdl_net.specs.Meaning.{Means, signal}
use Rattle.pdl_net.specs.Growth.{Extends}
use Rattle.pdl_net.proofs.Keeps.{extends_trans, extends_keeps}
use Rattle.pdl_net.proofs.KeptWidths.{width_kept, width_meant}
use Rattle.pdl_lockapi.specs.Laws.{step_signals}
use Rattle.pdl_lockapi.proofs.LockGrowth.{same_signals}
use Rattle.pdl_lock_ring.specs.Looks.{slot_of, tail_signal, second_ticket}
use Rattle.pdl_lock_ring.specs.Steps.{push_signal, push2_signal, last_addr, before_addr, pushes, pushes2, first_addr, second_addr, first_slot, second_slot}
use Rattle.pdl_lock_ring.proofs.RingGrowth.{same_mux, later_is, ports_kept}
use Rattle.pdl_lock_ring.proofs.Reserves.{push_width, push2_width, reserves_count, first_addr_is, second_addr_is, first_slot_is, second_slot_is}
use Rattle.pdl_lock_ring.proofs.taken.emit_taken.Goals as goal

pub mux-requires-clause-choice : goal.mux-requires-clause-choice
mux-requires-clause-choice c =
    let f = step_signals c.args.b.now c.args.p.now in
    width_meant c.emit_asked.new.b _ _ 1 c.in_ok-asked.ensures.asked.two (push2_width f _)

pub emit_gate-requires-clause-on : goal.emit_gate-requires-clause-on
emit_gate-requires-clause-on c =
    let b1 = c.emit_asked.new.b in
    let b2 = c.mux.new.self in
    let b3 = c.emit_ticket2.new.b in
    let f = step_signals c.args.b.now c.args.p.now in
    let x : Extends b1 b3 = extends_trans b1 b2 b3 c.in_ok-first.ensures.extends c.in_ok-ticket2.ensures.extends in
    width_kept b1 b3 _ 1 x (width_meant b1 _ _ 1 c.in_ok-asked.ensures.asked.one (push_width f _))

pub emit_gate-requires-2-clause-on : goal.emit_gate-requires-2-clause-on
emit_gate-requires-2-clause-on c =
    let b1 = c.emit_asked.new.b in
    let b2 = c.mux.new.self in
    let b3 = c.emit_ticket2.new.b in
    let b4 = c.emit_gate.new.b in
    let f = step_signals c.args.b.now c.args.p.now in
    let x : Extends b1 b3 = extends_trans b1 b2 b3 c.in_ok-first.ensures.extends c.in_ok-ticket2.ensures.extends in
    let y : Extends b1 b4 = extends_trans b1 b3 b4 x c.in_ok-first_slot.ensures.extends in
    width_kept b1 b4 _ 1 y (width_meant b1 _ _ 1 c.in_ok-asked.ensures.asked.two (push2_width f _))

pub returns-clause-ready : goal.returns-clause-ready
returns-clause-ready c =
    let a = c.args.b.now in
    let b1 = c.emit_asked.new.b in
    let b2 = c.mux.new.self in
    let b3 = c.emit_ticket2.new.b in
    let b4 = c.emit_gate.new.b in
    let b5 = c.emit_gate-2.new.b in
    let l = c.args.l in
    let p = c.args.p.now in
    let f = step_signals a p in
    let n = length f.reserves in
    let h = c.requires.given in
    let k = c.in_ok-asked.asked in
    let y = c.in_ok-asked.ensures.asked in
    let e = reserves_count a p in
    let x1 = c.in_ok-asked.ensures.extends in
    let x2 = c.in_ok-first.ensures.extends in
    let x3 = c.in_ok-ticket2.ensures.extends in
    let x4 = c.in_ok-first_slot.ensures.extends in
    let x5 = c.in_ok-second_slot.ensures.extends in
    let x13 : Extends b1 b3 = extends_trans b1 b2 b3 x2 x3 in
    let x14 : Extends b1 b4 = extends_trans b1 b3 b4 x13 x4 in
    let x15 : Extends b1 b5 = extends_trans b1 b4 b5 x14 x5 in
    let x35 : Extends b3 b5 = extends_trans b3 b4 b5 x4 x5 in
    let x25 : Extends b2 b5 = extends_trans b2 b3 b5 x3 x35 in
    let x03 : Extends a b3 = extends_trans a b1 b3 x1 x13 in
    let x05 : Extends a b5 = extends_trans a b1 b5 x1 x15 in
    let s : f ≡ step_signals b5 p = sym (same_signals a b5 p h.ports (extends_keeps a b5 x05)) in
    let one : signal b1 k.one ≡ pushes f = y.one.same ∙ ap (push_signal f) (sym e) in
    let two : signal b1 k.two ≡ pushes2 f = y.two.same ∙ ap (push2_signal f) (sym e) in
    let last : signal b1 k.last ≡ last_addr l.bits f n = y.last.same ∙ ap (last_addr l.bits f) (sym e) in
    let before : signal b1 k.before ≡ before_addr l.bits f n = y.before.same ∙ ap (before_addr l.bits f) (sym e) in
    let first : signal b2 c.in_ok-first.first ≡ first_addr l f =
    c.in_ok-first.ensures.means.same ∙ same_mux _ _ _ _ _ _ two before last ∙ sym (first_addr_is l f) in
    let none = const_signal l.ticket l.size in
    let first_slot_same : signal b4 c.in_ok-first_slot.first_slot ≡ first_slot l f =
    c.in_ok-first_slot.ensures.means.same
    ∙ same_mux (signal b3 k.one) (slot_of l (signal b3 (Reg (l.from + 1)))) none (pushes f)
    (slot_of l (tail_signal l)) none (x13.kept _ y.one.there ∙ one)
    (ap (slot_of l) (x03.kept _ h.slots.tail_there ∙ h.slots.tail)) refl
    ∙ sym (first_slot_is l f) in
    let second_slot_same : signal b5 c.in_ok-second_slot.second_slot ≡ second_slot l f =
    c.in_ok-second_slot.ensures.means.same
    ∙ same_mux (signal b4 k.two) (slot_of l (signal b4 c.in_ok-ticket2.ticket2)) none (pushes2 f)
    (slot_of l (second_ticket l)) none (x14.kept _ y.two.there ∙ two)
    (ap (slot_of l) (later_is b3 b4 _ _ x4 c.in_ok-ticket2.ensures.means)) refl
    ∙ sym (second_slot_is l f) in
    record {
      given = ports_kept a b5 l p h x05;
      one = subst (λ g. Means b5 k.one (pushes g)) s (record { there = x15.there _ y.one.there; same = x15.kept _ y.one.there ∙ one });
      two = subst (λ g. Means b5 k.two (pushes2 g)) s (record { there = x15.there _ y.two.there; same = x15.kept _ y.two.there ∙ two });
      first =
          subst (λ g. Means b5 c.in_ok-first.first (first_addr l g)) s
          (record { there = x25.there _ c.in_ok-first.ensures.means.there; same = x25.kept _ c.in_ok-first.ensures.means.there ∙ first });
      second =
          subst (λ g. Means b5 k.last (second_addr l g)) s
          (record { there = x15.there _ y.last.there; same = x15.kept _ y.last.there ∙ last ∙ sym (second_addr_is l f) });
      first_slot =
          subst (λ g. Means b5 c.in_ok-first_slot.first_slot (first_slot l g)) s
          (record { there = x5.there _ c.in_ok-first_slot.ensures.means.there; same = x5.kept _ c.in_ok-first_slot.ensures.means.there ∙ first_slot_same });
      second_slot =
          subst (λ g. Means b5 c.in_ok-second_slot.second_slot (second_slot l g)) s
          (record { there = c.in_ok-second_slot.ensures.means.there; same = second_slot_same });
      first_wide = ap (λ (g : Signal). g.width) (x25.kept _ c.in_ok-first.ensures.means.there ∙ c.in_ok-first.ensures.means.same) ∙ y.before_wide;
      second_wide = ap (λ (g : Signal). g.width) (x15.kept _ y.last.there) ∙ y.last_wide;
      first_slot_wide = ap (λ (g : Signal). g.width) (x5.kept _ c.in_ok-first_slot.ensures.means.there) ∙ c.in_ok-first_slot.ensures.wide;
      second_slot_wide = c.in_ok-second_slot.ensures.wide;
    }
