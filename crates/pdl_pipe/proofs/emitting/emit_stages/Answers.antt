use Rattle.std.proofs.Common.{sym, ap, ◌∙◌, length, refl}
use Rattle.pdl_form.specs.FormView.{form}
use Rattle.pdl_net.proofs.Keeps.{extends_keeps, extends_trans}
use Rattle.pdl_pipe_walk.specs.Locked.{members}
use Rattle.pdl_pipe_locks.proofs.LockGrowth.{locked_kept}
use Rattle.pdl_pipe.proofs.NetlistLayout.{laid_out, line_in, next_now, shared_now}
use Rattle.pdl_pipe.proofs.emitting.emit_stages.Goals as goal

pub lay_stages-requires-clause-shared : goal.lay_stages-requires-clause-shared
lay_stages-requires-clause-shared g c =
    let a = c.args.b.now in
    let b = c.lay_orders.new.b in
    let s = c.zeros.new.b in
    let mem = c.requires.memories in
    let zeros = c.in_ok-zeros.ensures in
    shared_now (members g.L.LockModule) g.met.L.LockModule.stays a s (form c.args.pipe.now) _ c.args.locks.now mem.0 mem.1 c.args.bits
    (extends_trans a b s c.lay_orders.ensures.extends c.zeros.ensures.extends) mem.2 refl c.in_ok-next.ensures zeros.there zeros.means

pub lay_stages-requires-clause-locks : goal.lay_stages-requires-clause-locks
lay_stages-requires-clause-locks g c =
    let a = c.args.b.now in
    let b = c.lay_orders.new.b in
    let s = c.zeros.new.b in
    locked_kept (members g.L.LockModule) a s (form c.args.pipe.now).pipe c.args.locks.now
    (extends_keeps a s (extends_trans a b s c.lay_orders.ensures.extends c.zeros.ensures.extends)) g.met.L.LockModule.stays c.requires.memories.2.locked

pub lay_stages-requires-clause-next : goal.lay_stages-requires-clause-next
lay_stages-requires-clause-next g c =
    let a = c.args.b.now in
    let b = c.lay_orders.new.b in
    let s = c.zeros.new.b in
    let mem = c.requires.memories in
    let zeros = c.in_ok-zeros.ensures in
    next_now (members g.L.LockModule) g.met.L.LockModule.stays a s (form c.args.pipe.now)
    (record { bits = c.args.bits; zeros = c.in_ok-zeros.zeros; next = c.in_ok-next.next; ports = c.args.ports }) c.args.locks.now mem.0 mem.1 c.args.bits
    (extends_trans a b s c.lay_orders.ensures.extends c.zeros.ensures.extends) mem.2 refl c.in_ok-next.ensures zeros.there zeros.means

pub emit_moves-requires-clause-line : goal.emit_moves-requires-clause-line
emit_moves-requires-clause-line g c =
    let a = c.args.b.now in
    let b = c.lay_orders.new.b in
    let s = c.zeros.new.b in
    let d = c.lay_stages.new.b in
    let l = members g.L.LockModule in
    let locks = c.args.locks.now in
    let mem = c.requires.memories in
    let zeros = c.in_ok-zeros.ensures in
    let made = c.in_ok-stages.ensures in
    line_in l g.met.L.LockModule.stays a b s d _ locks c.in_ok-orders.orders.items mem.0 mem.1 c.args.bits c.lay_orders.ensures.extends c.zeros.ensures.extends c.lay_stages.ensures.extends c.requires.can mem.2 refl c.in_ok-next.ensures zeros.there zeros.means
    c.in_ok-orders.ensures.orders c.in_ok-stages.stages.items c.as_slice.ensures.value made.staged made.count made.apart c.in_ok-blank.blank.items c.as_slice-2.ensures.value c.as_slice-3.ensures.value
    (c.in_ok-blank.ensures.count ∙ c.len.ensures ∙ sym c.as_slice.ensures.len ∙ ap length c.as_slice.ensures.value) c.in_ok-blank.ensures.each

pub emit_moves-requires-clause-laid : goal.emit_moves-requires-clause-laid
emit_moves-requires-clause-laid g c =
    let a = c.args.b.now in
    let b = c.lay_orders.new.b in
    let s = c.zeros.new.b in
    let d = c.lay_stages.new.b in
    let l = members g.L.LockModule in
    let locks = c.args.locks.now in
    let mem = c.requires.memories in
    let zeros = c.in_ok-zeros.ensures in
    let made = c.in_ok-stages.ensures in
    laid_out l g.met.L.LockModule.stays a b s d _ locks c.in_ok-orders.orders.items mem.0 mem.1 c.args.bits c.lay_orders.ensures.extends c.zeros.ensures.extends c.lay_stages.ensures.extends c.requires.can mem.2 refl c.in_ok-next.ensures zeros.there zeros.means
    c.in_ok-orders.ensures.orders c.in_ok-stages.stages.items c.as_slice.ensures.value made.staged made.count made.apart c.in_ok-blank.blank.items c.as_slice-2.ensures.value c.as_slice-3.ensures.value
    (c.in_ok-blank.ensures.count ∙ c.len.ensures ∙ sym c.as_slice.ensures.len
    ∙ ap length c.as_slice.ensures.value) c.in_ok-blank.ensures.each c.as_slice-4.result.now c.as_slice-4.ensures.value
