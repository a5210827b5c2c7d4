use Rattle.std.proofs.Common.{◌+◌, ◌*◌, sym, subst, ap, ◌∙◌, refl, arith}
use Rattle.pdl_net.specs.Signal.{Signal}
use Rattle.pdl_net.specs.Meaning.{IsThere, signal}
use Rattle.pdl_net.proofs.KeptWidths.{width_meant}
use Rattle.pdl_lockapi.specs.Laws.{RoomLaw, TicketLaw}
use Rattle.pdl_lockapi.specs.Second.{Room2Law, Ticket2Law}
use Rattle.pdl_lock_ring.specs.declared.layout.RingLayout.{RingLayout}
use Rattle.pdl_lock_ring.specs.Slots.{AreReset, Stands, content_signal, layout_of, ticket_bits, IsMemArray}
use Rattle.pdl_lock_ring.specs.Looks.{tail_signal, second_ticket, room_signal, room2_signal}
use Rattle.pdl_lock_ring.proofs.RingGrowth.{slots_kept, reset_kept}
use Rattle.pdl_lock_ring.proofs.LookMeanings.{room_law, room2_law, ticket_law, ticket2_law}
use Rattle.pdl_lock_ring.proofs.Module.{layout_is, are_placed, is_fragment, start_law, slots_law}
use Rattle.pdl_lock_ring.proofs.state.emit_state.Goals as goal

pub returns-clause-placed : goal.returns-clause-placed
returns-clause-placed c =
    let q = c.args.size in
    let l = c.in_ok-l.l in
    let e = c.in_ok-l.ensures in
    let b = c.emit_layout.new.b in
    let d = c.emit_regs.new.b in
    let r = c.in_ok-r.r in
    let g = c.in_ok-r.ensures in
    let same = layout_is q c.args.mem.now _ l r e.layout g.regs g.width g.bits g.array in
    are_placed q c.args.mem.now _ d l r e.layout same g.regs g.slots e.sized (slots_kept b d l e.slots g.extends)

pub returns-clause-fragment : goal.returns-clause-fragment
returns-clause-fragment c =
    let l = c.in_ok-l.l in
    let e = c.in_ok-l.ensures in
    let b = c.emit_layout.new.b in
    let d = c.emit_regs.new.b in
    let r = c.in_ok-r.r in
    let g = c.in_ok-r.ensures in
    is_fragment c.args.b.now b d l.from (2 + 3 * l.size) c.args.mem.now r (omega arith) g.regs e.layout.place (e.count ∙ omega arith)
    (subst (IsMemArray c.args.b.now b c.args.mem.now) (sym g.array) e.array) g.extends

pub returns-clause-nets : goal.returns-clause-nets
returns-clause-nets c =
    let l = c.in_ok-l.l in
    let e = c.in_ok-l.ensures in
    let d = c.emit_regs.new.b in
    let g = c.in_ok-r.ensures in
    let h = slots_kept c.emit_layout.new.b d l e.slots g.extends in
    record {
      room = width_meant d _ _ 1 g.room refl;
      ticket = record {
        there = subst (IsThere d) (sym g.ticket) h.tail_there;
        width = ap (λ n. (signal d n).width) g.ticket ∙ ap (λ (f : Signal). f.width) h.tail ∙ e.layout.ticket;
      };
    }

pub returns-clause-second : goal.returns-clause-second
returns-clause-second c =
    let e = c.in_ok-l.ensures in
    let g = c.in_ok-r.ensures in
    record {
      room2 = width_meant _ _ _ 1 g.room2 refl;
      ticket2 = width_meant _ _ _ _ g.ticket2 e.layout.ticket;
    }

pub returns-clause-start : goal.returns-clause-start
returns-clause-start c =
    let q = c.args.size in
    let l = c.in_ok-l.l in
    let e = c.in_ok-l.ensures in
    let b = c.emit_layout.new.b in
    let d = c.emit_regs.new.b in
    let r = c.in_ok-r.r in
    let g = c.in_ok-r.ensures in
    let same = layout_is q c.args.mem.now _ l r e.layout g.regs g.width g.bits g.array in
    let R : RingLayout → Type 0 = λ y. AreReset d y 0 in
    start_law q d r (are_placed q c.args.mem.now _ d l r e.layout same g.regs g.slots e.sized (slots_kept b d l e.slots g.extends))
    (subst R (sym same) (reset_kept b d l 0 e.slots e.reset g.extends))

pub returns-clause-room : goal.returns-clause-room
returns-clause-room c =
    let q = c.args.size in
    let l = c.in_ok-l.l in
    let e = c.in_ok-l.ensures in
    let r = c.in_ok-r.r in
    let g = c.in_ok-r.ensures in
    let same = layout_is q c.args.mem.now _ l r e.layout g.regs g.width g.bits g.array in
    let P : RingLayout → Type 0 = λ y. RoomLaw (Stands y) y.size (room_signal l) in
    let Q : Signal → Type 0 = λ f. RoomLaw (Stands (layout_of q r)) q f in
    subst Q (sym g.room.same) (subst P (sym same) (room_law (Stands l) l (content_signal l) e.sized (λ s x h. h.entries)))

pub returns-clause-room2 : goal.returns-clause-room2
returns-clause-room2 c =
    let q = c.args.size in
    let l = c.in_ok-l.l in
    let e = c.in_ok-l.ensures in
    let r = c.in_ok-r.r in
    let g = c.in_ok-r.ensures in
    let same = layout_is q c.args.mem.now _ l r e.layout g.regs g.width g.bits g.array in
    let P : RingLayout → Type 0 = λ y. Room2Law (Stands y) y.size (room2_signal l) in
    let Q : Signal → Type 0 = λ f. Room2Law (Stands (layout_of q r)) q f in
    subst Q (sym g.room2.same) (subst P (sym same) (room2_law (Stands l) l (content_signal l) e.sized (λ s x h. h.entries)))

pub returns-clause-ticket : goal.returns-clause-ticket
returns-clause-ticket c =
    let q = c.args.size in
    let l = c.in_ok-l.l in
    let e = c.in_ok-l.ensures in
    let d = c.emit_regs.new.b in
    let r = c.in_ok-r.r in
    let g = c.in_ok-r.ensures in
    let h = slots_kept c.emit_layout.new.b d l e.slots g.extends in
    let same = layout_is q c.args.mem.now _ l r e.layout g.regs g.width g.bits g.array in
    let P : RingLayout → Type 0 = λ y. TicketLaw (Stands y) y.ticket (tail_signal l) in
    let Q : Signal → Type 0 = λ f. TicketLaw (Stands (layout_of q r)) (ticket_bits q) f in
    subst Q (sym (ap (signal d) g.ticket ∙ h.tail)) (subst P (sym same) (ticket_law (Stands l) l (content_signal l) e.sized (λ s x h. h.entries)))

pub returns-clause-ticket2 : goal.returns-clause-ticket2
returns-clause-ticket2 c =
    let q = c.args.size in
    let l = c.in_ok-l.l in
    let e = c.in_ok-l.ensures in
    let r = c.in_ok-r.r in
    let g = c.in_ok-r.ensures in
    let same = layout_is q c.args.mem.now _ l r e.layout g.regs g.width g.bits g.array in
    let P : RingLayout → Type 0 = λ y. Ticket2Law (Stands y) y.ticket (second_ticket l) in
    let Q : Signal → Type 0 = λ f. Ticket2Law (Stands (layout_of q r)) (ticket_bits q) f in
    subst Q (sym g.ticket2.same) (subst P (sym same) (ticket2_law (Stands l) l (content_signal l) e.sized (λ s x h. h.entries)))

pub returns-clause-slots : goal.returns-clause-slots
returns-clause-slots c =
    let q = c.args.size in
    let l = c.in_ok-l.l in
    let e = c.in_ok-l.ensures in
    let b = c.emit_layout.new.b in
    let d = c.emit_regs.new.b in
    let r = c.in_ok-r.r in
    let g = c.in_ok-r.ensures in
    let same = layout_is q c.args.mem.now _ l r e.layout g.regs g.width g.bits g.array in
    slots_law q d r (are_placed q c.args.mem.now _ d l r e.layout same g.regs g.slots e.sized (slots_kept b d l e.slots g.extends))
