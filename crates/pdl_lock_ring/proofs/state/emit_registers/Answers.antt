use Rattle.std.proofs.Common.{length-append, ◌≡◌, ◌+◌, length, sym, ap, subst, ◌∙◌}
use Rattle.pdl_net.specs.Growth.{Extends}
use Rattle.pdl_net.proofs.Keeps.{extends_trans}
use Rattle.pdl_net.specs.Circuit.{Circuit}
use Rattle.pdl_build.specs.Change.{IsNewReg}
use Rattle.pdl_lock_ring.specs.declared.choice.Registers.{Registers}
use Rattle.pdl_lock_ring.specs.Registers.{HasRow, row_of}
use Rattle.pdl_lock_ring.proofs.RingGrowth.{row_kept}
use Rattle.pdl_lock_ring.proofs.Rows.{new_kept, own_array_kept, slots_made}
use Rattle.pdl_lock_ring.proofs.state.emit_registers.Goals as goal

pub returns-clause-slots : goal.returns-clause-slots
returns-clause-slots c =
    let l = c.args.l in
    let a = c.args.b.now in
    let b1 = c.reg.new.self in
    let b2 = c.reg-2.new.self in
    let b3 = c.emit_row.new.b in
    let b4 = c.emit_row-2.new.b in
    let d = c.emit_first_contents.new.b in
    let x1 : Extends a b1 = c.in_ok-reg.ensures.extends in
    let x2 : Extends b1 b2 = c.in_ok-reg-2.ensures.extends in
    let x3 : Extends b2 b3 = c.in_ok-emit_row.ensures.extends in
    let x4 : Extends b3 b4 = c.in_ok-emit_row-2.ensures.extends in
    let x5 : Extends b4 d = c.in_ok-emit_first_contents.ensures.extends in
    let x45 : Extends b3 d = extends_trans b3 b4 d x4 x5 in
    let x25 : Extends b2 d = extends_trans b2 b3 d x3 x45 in
    let x15 : Extends b1 d = extends_trans b1 b2 d x2 x25 in
    let e1 : c.in_ok-reg.field-0 ≡ l.from = c.in_ok-reg.ensures.place ∙ sym c.requires.from in
    let e2 : c.in_ok-reg-2.field-0 ≡ l.from + 1 =
    c.in_ok-reg-2.ensures.place ∙ ap (λ (g : Circuit). length g.regs) c.in_ok-reg.ensures.exact
    ∙ length-append a.regs _ ∙ ap (λ n. n + 1) (sym c.requires.from) in
    let addrs : HasRow b3 (row_of l (l.from + 2) l.bits) l.size =
    subst (λ (r : Registers). HasRow b3 r r.count) c.row-addrs.ensures c.in_ok-emit_row.ensures.row in
    let bits : HasRow b4 (row_of l (l.from + 2 + l.size) 1) l.size =
    subst (λ (r : Registers). HasRow b4 r r.count) c.row-bits.ensures c.in_ok-emit_row-2.ensures.row in
    slots_made d l
    (subst (λ r. IsNewReg d r l.ticket 0) e1 (new_kept b1 d c.in_ok-reg.field-0 l.ticket 0 c.in_ok-reg.ensures.has x15))
    (subst (λ r. IsNewReg d r l.ticket 0) e2 (new_kept b2 d c.in_ok-reg-2.field-0 l.ticket 0 c.in_ok-reg-2.ensures.has x25))
    (row_kept b3 d _ l.size addrs x45)
    (row_kept b4 d _ l.size bits x5)
    c.in_ok-emit_first_contents.ensures.row
    (own_array_kept a d l c.requires.array (extends_trans a b1 d x1 x15))
