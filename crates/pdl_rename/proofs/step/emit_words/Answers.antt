use Rattle.std.proofs.Common.{◌≡◌, ap, sym, ◌∙◌}
use Rattle.pdl_net.specs.Meaning.{Means, signal}
use Rattle.pdl_net.specs.Growth.{Extends}
use Rattle.pdl_net.proofs.Keeps.{extends_keeps, extends_trans}
use Rattle.pdl_lockapi.specs.Laws.{step_signals}
use Rattle.pdl_lockapi.proofs.LockGrowth.{same_signals}
use Rattle.pdl_lock_ring.specs.Looks.{slot_of, head_signal}
use Rattle.pdl_lock_ring.specs.Steps.{next_head}
use Rattle.pdl_lock_ring.proofs.RingGrowth.{means_as, later_is}
use Rattle.pdl_rename.specs.Nets.{oldest_value}
use Rattle.pdl_rename.proofs.ChoiceWidths.{same_stored}
use Rattle.pdl_rename.proofs.step.emit_words.Goals as goal

pub returns-clause-first : goal.returns-clause-first
returns-clause-first c =
    let a = c.args.b.now in
    let b1 = c.emit_slot_of.new.b in
    let b2 = c.emit_stored.new.b in
    let b3 = c.emit_next_head.new.b in
    let b4 = c.emit_slot_of-2.new.b in
    let b5 = c.emit_stored-2.new.b in
    let l = c.args.l in
    let p = c.args.p.now in
    let f = step_signals a p in
    let x1 = c.in_ok-slot.ensures.extends in
    let x35 : Extends b2 b5 =
    extends_trans b2 b3 b5 c.in_ok-next.ensures.extends (extends_trans b3 b4 b5 c.in_ok-slot2.ensures.extends c.in_ok-second.ensures.extends) in
    let s : step_signals b1 p ≡ f = same_signals a b1 p c.requires.given.ports (extends_keeps a b1 x1) in
    let slot : signal b1 c.in_ok-slot.slot ≡ slot_of l.slots (head_signal l.slots) =
    c.in_ok-slot.ensures.means.same ∙ ap (slot_of l.slots) c.requires.given.slots.head in
    let first : Means b2 c.in_ok-first.first (oldest_value l f) =
    means_as b2 _ _ _ c.in_ok-first.ensures.means
    (same_stored l _ _ _ _ _ _ s (later_is a b1 c.args.o.first.content _ x1 c.requires.oldest.content) slot) in
    record { there = x35.there _ first.there; same = later_is b2 b5 _ _ x35 first }

pub returns-clause-second : goal.returns-clause-second
returns-clause-second c =
    let a = c.args.b.now in
    let b1 = c.emit_slot_of.new.b in
    let b2 = c.emit_stored.new.b in
    let b3 = c.emit_next_head.new.b in
    let b4 = c.emit_slot_of-2.new.b in
    let b5 = c.emit_stored-2.new.b in
    let l = c.args.l in
    let p = c.args.p.now in
    let f = step_signals a p in
    let x : Extends a b4 =
    extends_trans a b2 b4 (extends_trans a b1 b2 c.in_ok-slot.ensures.extends c.in_ok-first.ensures.extends)
    (extends_trans b2 b3 b4 c.in_ok-next.ensures.extends c.in_ok-slot2.ensures.extends) in
    let s : step_signals b4 p ≡ f = same_signals a b4 p c.requires.given.ports (extends_keeps a b4 x) in
    let slot : signal b4 c.in_ok-slot2.slot2 ≡ slot_of l.slots (next_head l.slots) =
    c.in_ok-slot2.ensures.means.same ∙ ap (slot_of l.slots) c.in_ok-next.ensures.means.same in
    means_as b5 _ _ _ c.in_ok-second.ensures.means
    (same_stored l _ _ _ _ _ _ s (later_is a b4 c.args.o.second.content _ x c.requires.oldest.content2) slot)
