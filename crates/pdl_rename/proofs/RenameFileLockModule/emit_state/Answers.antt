use Rattle.std.proofs.Common.{refl, length, sym, subst, ap, ◌∙◌}
use Rattle.pdl_net.specs.Signal.{Signal}
use Rattle.pdl_net.specs.Meaning.{IsThere, signal}
use Rattle.pdl_net.proofs.KeptWidths.{width_meant}
use Rattle.pdl_lockapi.specs.Laws.{HasNoPorts, RoomLaw, TicketLaw}
use Rattle.pdl_lockapi.specs.Second.{Room2Law, Ticket2Law}
use Rattle.pdl_lock_ring.specs.Slots.{AreReset, ticket_bits}
use Rattle.pdl_lock_ring.specs.Looks.{tail_signal, second_ticket, room_signal, room2_signal}
use Rattle.pdl_lock_ring.proofs.RingGrowth.{slots_kept}
use Rattle.pdl_lock_ring.proofs.RingGrowth as slots
use Rattle.pdl_lock_ring.proofs.LookMeanings.{room_law, room2_law, ticket_law, ticket2_law}
use Rattle.pdl_rename.specs.declared.layout.Layout.{Layout}
use Rattle.pdl_rename.specs.Places.{IsMapReset, Stands, placed_signal, layout_of}
use Rattle.pdl_rename.proofs.MadeRegisters.{map_kept, store_kept, reset_kept}
use Rattle.pdl_rename.proofs.Module.{IsAnswered, layout_is, is_rename, is_fragment, start_law, places_law, slots_law}
use Rattle.pdl_rename.proofs.RenameFileLockModule.emit_state.Goals as goal

pub returns-clause-placed : goal.returns-clause-placed
returns-clause-placed c =
    let q = c.args.self.now in
    let l = c.in_ok-l.l in
    let e = c.in_ok-l.ensures in
    let b = c.emit_layout.new.b in
    let d = c.emit_regs.new.b in
    let r = c.in_ok-regs.regs in
    let g = c.in_ok-regs.ensures in
    let i : IsAnswered l r = record { regs = g.regs; slots = g.slots; width = g.width; bits = g.bits; array = g.array } in
    is_rename q c.args.mem.now _ l r d e.layout e.renaming i (slots_kept b d l.slots e.slots g.extends)
    (map_kept b d l l.depth e.map g.extends) (store_kept b d l e.store.has g.extends)

pub returns-clause-fragment : goal.returns-clause-fragment
returns-clause-fragment c =
    let q = c.args.self.now in
    let l = c.in_ok-l.l in
    let e = c.in_ok-l.ensures in
    let b = c.emit_layout.new.b in
    let d = c.emit_regs.new.b in
    let r = c.in_ok-regs.regs in
    let g = c.in_ok-regs.ensures in
    let i : IsAnswered l r = record { regs = g.regs; slots = g.slots; width = g.width; bits = g.bits; array = g.array } in
    is_fragment q c.args.mem.now (length c.args.b.now.regs) l r c.args.b.now b d e.layout e.renaming i e.count e.store g.extends

pub returns-clause-empty : goal.returns-clause-empty
returns-clause-empty c =
    let q = c.args.self.now in
    let l = c.in_ok-l.l in
    let e = c.in_ok-l.ensures in
    let b = c.emit_layout.new.b in
    let d = c.emit_regs.new.b in
    let r = c.in_ok-regs.regs in
    let g = c.in_ok-regs.ensures in
    let i : IsAnswered l r = record { regs = g.regs; slots = g.slots; width = g.width; bits = g.bits; array = g.array } in
    subst (λ m. HasNoPorts m d) (sym g.array) (g.extends.writes l.array e.store.has.has_store ∙ e.store.empty)

pub returns-clause-nets : goal.returns-clause-nets
returns-clause-nets c =
    let q = c.args.self.now in
    let l = c.in_ok-l.l in
    let e = c.in_ok-l.ensures in
    let b = c.emit_layout.new.b in
    let d = c.emit_regs.new.b in
    let r = c.in_ok-regs.regs in
    let g = c.in_ok-regs.ensures in
    let i : IsAnswered l r = record { regs = g.regs; slots = g.slots; width = g.width; bits = g.bits; array = g.array } in
    let h = slots_kept b d l.slots e.slots g.extends in
    record {
      room = width_meant d _ _ 1 g.room refl;
      ticket = record {
        there = subst (IsThere d) (sym g.ticket) h.tail_there;
        width = ap (λ n. (signal d n).width) g.ticket ∙ ap (λ (f : Signal). f.width) h.tail ∙ e.layout.ticket;
      };
    }

pub returns-clause-second : goal.returns-clause-second
returns-clause-second c =
    let q = c.args.self.now in
    let l = c.in_ok-l.l in
    let e = c.in_ok-l.ensures in
    let b = c.emit_layout.new.b in
    let d = c.emit_regs.new.b in
    let r = c.in_ok-regs.regs in
    let g = c.in_ok-regs.ensures in
    let i : IsAnswered l r = record { regs = g.regs; slots = g.slots; width = g.width; bits = g.bits; array = g.array } in
    record {
      room2 = width_meant _ _ _ 1 g.room2 refl;
      ticket2 = width_meant _ _ _ _ g.ticket2 e.layout.ticket;
    }

pub returns-clause-start : goal.returns-clause-start
returns-clause-start c =
    let q = c.args.self.now in
    let l = c.in_ok-l.l in
    let e = c.in_ok-l.ensures in
    let b = c.emit_layout.new.b in
    let d = c.emit_regs.new.b in
    let r = c.in_ok-regs.regs in
    let g = c.in_ok-regs.ensures in
    let i : IsAnswered l r = record { regs = g.regs; slots = g.slots; width = g.width; bits = g.bits; array = g.array } in
    let same = layout_is q c.args.mem.now _ l r e.layout e.renaming i in
    let R : Layout → Type 0 = λ y. AreReset d y.slots y.depth in
    let M : Layout → Type 0 = λ y. IsMapReset d y y.depth in
    start_law q d r
    (is_rename q c.args.mem.now _ l r d e.layout e.renaming i (slots_kept b d l.slots e.slots g.extends)
    (map_kept b d l l.depth e.map g.extends) (store_kept b d l e.store.has g.extends))
    (subst R (sym same) (slots.reset_kept b d l.slots l.depth e.slots e.slots_reset g.extends))
    (subst M (sym same) (reset_kept b d l l.depth e.map e.map_reset g.extends))

pub returns-clause-places : goal.returns-clause-places
returns-clause-places c =
    let q = c.args.self.now in
    let l = c.in_ok-l.l in
    let e = c.in_ok-l.ensures in
    let b = c.emit_layout.new.b in
    let d = c.emit_regs.new.b in
    let r = c.in_ok-regs.regs in
    let g = c.in_ok-regs.ensures in
    let i : IsAnswered l r = record { regs = g.regs; slots = g.slots; width = g.width; bits = g.bits; array = g.array } in
    places_law q d r
    (is_rename q c.args.mem.now _ l r d e.layout e.renaming i (slots_kept b d l.slots e.slots g.extends)
    (map_kept b d l l.depth e.map g.extends) (store_kept b d l e.store.has g.extends))

pub returns-clause-slots : goal.returns-clause-slots
returns-clause-slots c =
    let q = c.args.self.now in
    let l = c.in_ok-l.l in
    let e = c.in_ok-l.ensures in
    let b = c.emit_layout.new.b in
    let d = c.emit_regs.new.b in
    let r = c.in_ok-regs.regs in
    let g = c.in_ok-regs.ensures in
    let i : IsAnswered l r = record { regs = g.regs; slots = g.slots; width = g.width; bits = g.bits; array = g.array } in
    slots_law q d r
    (is_rename q c.args.mem.now _ l r d e.layout e.renaming i (slots_kept b d l.slots e.slots g.extends)
    (map_kept b d l l.depth e.map g.extends) (store_kept b d l e.store.has g.extends))

pub returns-clause-room : goal.returns-clause-room
returns-clause-room c =
    let q = c.args.self.now in
    let l = c.in_ok-l.l in
    let e = c.in_ok-l.ensures in
    let b = c.emit_layout.new.b in
    let d = c.emit_regs.new.b in
    let r = c.in_ok-regs.regs in
    let g = c.in_ok-regs.ensures in
    let i : IsAnswered l r = record { regs = g.regs; slots = g.slots; width = g.width; bits = g.bits; array = g.array } in
    let same = layout_is q c.args.mem.now _ l r e.layout e.renaming i in
    let P : Layout → Type 0 = λ y. RoomLaw (Stands y) y.slots.size (room_signal l.slots) in
    let Q : Signal → Type 0 = λ f. RoomLaw (Stands (layout_of q.size r)) (q.size) f in
    subst Q (sym g.room.same) (subst P (sym same) (room_law (Stands l) l.slots (placed_signal l) e.renaming.sized (λ s x h. h.entries)))

pub returns-clause-room2 : goal.returns-clause-room2
returns-clause-room2 c =
    let q = c.args.self.now in
    let l = c.in_ok-l.l in
    let e = c.in_ok-l.ensures in
    let b = c.emit_layout.new.b in
    let d = c.emit_regs.new.b in
    let r = c.in_ok-regs.regs in
    let g = c.in_ok-regs.ensures in
    let i : IsAnswered l r = record { regs = g.regs; slots = g.slots; width = g.width; bits = g.bits; array = g.array } in
    let same = layout_is q c.args.mem.now _ l r e.layout e.renaming i in
    let P : Layout → Type 0 = λ y. Room2Law (Stands y) y.slots.size (room2_signal l.slots) in
    let Q : Signal → Type 0 = λ f. Room2Law (Stands (layout_of q.size r)) (q.size) f in
    subst Q (sym g.room2.same) (subst P (sym same) (room2_law (Stands l) l.slots (placed_signal l) e.renaming.sized (λ s x h. h.entries)))

pub returns-clause-ticket2 : goal.returns-clause-ticket2
returns-clause-ticket2 c =
    let q = c.args.self.now in
    let l = c.in_ok-l.l in
    let e = c.in_ok-l.ensures in
    let b = c.emit_layout.new.b in
    let d = c.emit_regs.new.b in
    let r = c.in_ok-regs.regs in
    let g = c.in_ok-regs.ensures in
    let i : IsAnswered l r = record { regs = g.regs; slots = g.slots; width = g.width; bits = g.bits; array = g.array } in
    let same = layout_is q c.args.mem.now _ l r e.layout e.renaming i in
    let P : Layout → Type 0 = λ y. Ticket2Law (Stands y) y.slots.ticket (second_ticket l.slots) in
    let Q : Signal → Type 0 = λ f. Ticket2Law (Stands (layout_of q.size r)) (ticket_bits q.size) f in
    subst Q (sym g.ticket2.same) (subst P (sym same) (ticket2_law (Stands l) l.slots (placed_signal l) e.renaming.sized (λ s x h. h.entries)))

pub returns-clause-ticket : goal.returns-clause-ticket
returns-clause-ticket c =
    let q = c.args.self.now in
    let l = c.in_ok-l.l in
    let e = c.in_ok-l.ensures in
    let b = c.emit_layout.new.b in
    let d = c.emit_regs.new.b in
    let r = c.in_ok-regs.regs in
    let g = c.in_ok-regs.ensures in
    let i : IsAnswered l r = record { regs = g.regs; slots = g.slots; width = g.width; bits = g.bits; array = g.array } in
    let same = layout_is q c.args.mem.now _ l r e.layout e.renaming i in
    let h = slots_kept b d l.slots e.slots g.extends in
    let P : Layout → Type 0 = λ y. TicketLaw (Stands y) y.slots.ticket (tail_signal l.slots) in
    let Q : Signal → Type 0 = λ f. TicketLaw (Stands (layout_of q.size r)) (ticket_bits q.size) f in
    subst Q (sym (ap (signal d) g.ticket ∙ h.tail)) (subst P (sym same) (ticket_law (Stands l) l.slots (placed_signal l) e.renaming.sized (λ s x h. h.entries)))
