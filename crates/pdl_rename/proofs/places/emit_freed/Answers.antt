use Rattle.std.proofs.Common.{◌≡◌, refl, sym, ap, subst, ◌∙◌}
use Rattle.pdl_net.specs.declared.Net.TheVariants.{Reg}
use Rattle.pdl_net.specs.Signal.{Signal, const_signal}
use Rattle.pdl_net.specs.Meaning.{Means, signal}
use Rattle.pdl_net.specs.Growth.{Extends}
use Rattle.pdl_net.proofs.Keeps.{extends_keeps, extends_trans}
use Rattle.pdl_lockapi.specs.Laws.{StepSignals, step_signals}
use Rattle.pdl_lockapi.proofs.LockGrowth.{same_signals}
use Rattle.pdl_lock_ring.specs.Looks.{head_signal, slot_of}
use Rattle.pdl_lock_ring.specs.Steps.{next_head}
use Rattle.pdl_lock_ring.proofs.RingGrowth.{same_mux, later_is, oldest_later}
use Rattle.pdl_lock_ring.proofs.Ends.{release_is, release2_is}
use Rattle.pdl_rename.specs.Nets.{mapped_place, freed_slot, freed2_slot, freed_place, freed2_place}
use Rattle.pdl_rename.proofs.ChoiceWidths.{mapped_width}
use Rattle.pdl_rename.proofs.places.emit_freed.Goals as goal

pub emit_freed2-requires-clause-oldest : goal.emit_freed2-requires-clause-oldest
emit_freed2-requires-clause-oldest c =
    let a = c.args.b.now in
    let b1 = c.emit_next_head.new.b in
    let b2 = c.emit_gate.new.b in
    let b3 = c.emit_mapped.new.b in
    let b4 = c.emit_gate-2.new.b in
    let p = c.args.p.now in
    let x12 : Extends a b2 = extends_trans a b1 b2 c.in_ok-next.ensures.extends c.in_ok-slot.ensures.extends in
    let x34 : Extends b2 b4 = extends_trans b2 b3 b4 c.in_ok-place.ensures.extends c.in_ok-slot2.ensures.extends in
    let k = extends_keeps a b4 (extends_trans a b2 b4 x12 x34) in
    let s : step_signals b4 p ≡ step_signals a p = same_signals a b4 p c.requires.given.ports k in
    oldest_later a b4 c.args.l.slots (step_signals a p) (step_signals b4 p) c.args.o (sym s) k c.requires.oldest

pub returns-clause-freed : goal.returns-clause-freed
returns-clause-freed c =
    let a = c.args.b.now in
    let b1 = c.emit_next_head.new.b in
    let b2 = c.emit_gate.new.b in
    let b3 = c.emit_mapped.new.b in
    let b4 = c.emit_gate-2.new.b in
    let b5 = c.emit_freed2.new.b in
    let l = c.args.l in
    let p = c.args.p.now in
    let f = step_signals a p in
    let h = c.requires.given in
    let o = c.requires.oldest in
    let x1 = c.in_ok-next.ensures.extends in
    let x2 = c.in_ok-slot.ensures.extends in
    let x3 = c.in_ok-place.ensures.extends in
    let x4 = c.in_ok-slot2.ensures.extends in
    let x5 = c.in_ok-place2.ensures.extends in
    let x02 : Extends a b2 = extends_trans a b1 b2 x1 x2 in
    let x03 : Extends a b3 = extends_trans a b2 b3 x02 x3 in
    let x04 : Extends a b4 = extends_trans a b3 b4 x03 x4 in
    let x13 : Extends b1 b3 = extends_trans b1 b2 b3 x2 x3 in
    let x35 : Extends b3 b5 = extends_trans b3 b4 b5 x4 x5 in
    let x25 : Extends b2 b5 = extends_trans b2 b3 b5 x3 x35 in
    let none = const_signal l.slots.ticket l.slots.size in
    let first : signal b2 c.in_ok-slot.slot ≡ freed_slot l f =
    c.in_ok-slot.ensures.means.same
    ∙ same_mux (signal b1 p.release) (slot_of l.slots (signal b1 (Reg l.slots.from))) none f.release (slot_of l.slots (head_signal l.slots)) none
    (x1.kept p.release h.ports.release ∙ sym (release_is a p)) (ap (slot_of l.slots) (x1.kept (Reg l.slots.from) h.slots.head_there ∙ h.slots.head)) refl in
    let second : signal b4 c.in_ok-slot2.slot2 ≡ freed2_slot l f =
    c.in_ok-slot2.ensures.means.same
    ∙ same_mux (signal b3 p.release2) (slot_of l.slots (signal b3 c.in_ok-next.next)) none f.release2 (slot_of l.slots (next_head l.slots)) none
    (x03.kept p.release2 h.ports.release2 ∙ sym (release2_is a p)) (ap (slot_of l.slots) (later_is b1 b3 _ _ x13 c.in_ok-next.ensures.means)) refl in
    let place : signal b3 c.in_ok-place.place ≡ freed_place l f = c.in_ok-place.ensures.means.same ∙ ap (mapped_place l) (later_is a b2 _ _ x02 o.addr) in
    let s : step_signals b4 p ≡ f = same_signals a b4 p h.ports (extends_keeps a b4 x04) in
    let place2 : Means b5 c.in_ok-place2.place2 (freed2_place l f) =
    subst (λ (g : StepSignals). Means b5 c.in_ok-place2.place2 (freed2_place l g)) s c.in_ok-place2.ensures.means in
    record {
      slot = record { there = x25.there _ c.in_ok-slot.ensures.means.there; same = x25.kept _ c.in_ok-slot.ensures.means.there ∙ first };
      place = record { there = x35.there _ c.in_ok-place.ensures.means.there; same = x35.kept _ c.in_ok-place.ensures.means.there ∙ place };
      slot2 = record { there = x5.there _ c.in_ok-slot2.ensures.means.there; same = x5.kept _ c.in_ok-slot2.ensures.means.there ∙ second };
      place2 = place2;
      slot_wide = ap (λ (g : Signal). g.width) (x25.kept _ c.in_ok-slot.ensures.means.there) ∙ c.in_ok-slot.ensures.wide;
      place_wide = ap (λ (g : Signal). g.width) (x35.kept _ c.in_ok-place.ensures.means.there ∙ c.in_ok-place.ensures.means.same) ∙ mapped_width l _;
      slot2_wide = ap (λ (g : Signal). g.width) (x5.kept _ c.in_ok-slot2.ensures.means.there) ∙ c.in_ok-slot2.ensures.wide;
      place2_wide = ap (λ (g : Signal). g.width) place2.same ∙ sym (ap (λ (g : Signal). g.width) o.content.same) ∙ o.content_wide;
    }
