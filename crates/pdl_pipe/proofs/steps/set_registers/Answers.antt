use Rattle.std.proofs.Common.{sym, ◌∙◌, subst, length, inr, arith}
use Rattle.pdl_net.proofs.Keeps.{but_keeps, extends_keeps, keeps_trans}
use Rattle.pdl_net.proofs.KeptWidths.{width_keeps}
use Rattle.pdl_pipe_exprs.proofs.NetLists.{there_keeps, signals_keep}
use Rattle.pdl_pipe_walk.specs.Locked.{members, AreTickets}
use Rattle.pdl_pipe_locks.proofs.LockGrowth.{locked_kept, laws_kept}
use Rattle.pdl_pipe_beside.proofs.EndGrowth.{ends_keep}
use Rattle.pdl_pipe_beside.proofs.PortSteps.{ports_stand}
use Rattle.pdl_pipe_beside.proofs.OrderSteps.{orders_stand, squashes_keep}
use Rattle.pdl_pipe_nexts.specs.Lines.{line_form, line_pipe}
use Rattle.pdl_pipe_nexts.specs.Nexts.{regs_of}
use Rattle.pdl_pipe_nexts.proofs.LineGrowth.{line_keep}
use Rattle.pdl_pipe.proofs.KeptSteps.{next_kept, cut_fits, unwritten_kept}
use Rattle.pdl_pipe.proofs.steps.set_registers.Goals as goal

pub tails-requires-clause-line : goal.tails-requires-clause-line
tails-requires-clause-line g c =
    let b = c.args.b.now in
    let e = c.set_stages.new.b in
    let x = c.args.all.now.line.now in
    let be = but_keeps (regs_of 0 (length b.regs)) b e (c.set_stages.ensures.extends 0 c.requires.apart) in
    line_keep b e x be c.requires.line

pub tails-requires-clause-squash : goal.tails-requires-clause-squash
tails-requires-clause-squash g c =
    let b = c.args.b.now in
    let e = c.set_stages.new.b in
    let be = but_keeps (regs_of 0 (length b.regs)) b e (c.set_stages.ensures.extends 0 c.requires.apart) in
    width_keeps b e c.args.all.now.squashes.verify 1 be c.requires.squashes.verify

pub set_ports-requires-clause-ends : goal.set_ports-requires-clause-ends
set_ports-requires-clause-ends g c =
    let b = c.args.b.now in
    let e = c.set_stages.new.b in
    let x = c.args.all.now.line.now in
    let be = but_keeps (regs_of 0 (length b.regs)) b e (c.set_stages.ensures.extends 0 c.requires.apart) in
    let f = c.tails.new.b in
    let bf = keeps_trans b e f be (extends_keeps e f c.tails.ensures.extends) in
    ends_keep b f bf (line_form x) c.args.ends.now c.requires.ends

pub set_ports-requires-clause-ports : goal.set_ports-requires-clause-ports
set_ports-requires-clause-ports g c =
    let b = c.args.b.now in
    let e = c.set_stages.new.b in
    let x = c.args.all.now.line.now in
    let be = but_keeps (regs_of 0 (length b.regs)) b e (c.set_stages.ensures.extends 0 c.requires.apart) in
    let f = c.tails.new.b in
    let bf = keeps_trans b e f be (extends_keeps e f c.tails.ensures.extends) in
    ports_stand b f (line_pipe x) x.shared.now.ports.now bf c.requires.ports

pub set_orders-requires-clause-ends : goal.set_orders-requires-clause-ends
set_orders-requires-clause-ends g c =
    let b = c.args.b.now in
    let e = c.set_stages.new.b in
    let x = c.args.all.now.line.now in
    let be = but_keeps (regs_of 0 (length b.regs)) b e (c.set_stages.ensures.extends 0 c.requires.apart) in
    let f = c.tails.new.b in
    let bf = keeps_trans b e f be (extends_keeps e f c.tails.ensures.extends) in
    let i = c.set_ports.new.b in
    let fi = c.in_ok-set_ports.ensures.extends.keeps in
    let bi = keeps_trans b f i bf fi in
    ends_keep b i bi (line_form x) c.args.ends.now c.requires.ends

pub set_orders-requires-clause-squashes : goal.set_orders-requires-clause-squashes
set_orders-requires-clause-squashes g c =
    let b = c.args.b.now in
    let e = c.set_stages.new.b in
    let be = but_keeps (regs_of 0 (length b.regs)) b e (c.set_stages.ensures.extends 0 c.requires.apart) in
    let f = c.tails.new.b in
    let bf = keeps_trans b e f be (extends_keeps e f c.tails.ensures.extends) in
    let i = c.set_ports.new.b in
    squashes_keep b i c.args.all.now.squashes (keeps_trans b f i bf c.in_ok-set_ports.ensures.extends.keeps) c.requires.squashes

pub set_orders-requires-clause-orders : goal.set_orders-requires-clause-orders
set_orders-requires-clause-orders g c =
    let b = c.args.b.now in
    let e = c.set_stages.new.b in
    let x = c.args.all.now.line.now in
    let be = but_keeps (regs_of 0 (length b.regs)) b e (c.set_stages.ensures.extends 0 c.requires.apart) in
    let f = c.tails.new.b in
    let bf = keeps_trans b e f be (extends_keeps e f c.tails.ensures.extends) in
    let i = c.set_ports.new.b in
    let fi = c.in_ok-set_ports.ensures.extends.keeps in
    let bi = keeps_trans b f i bf fi in
    orders_stand b i (line_pipe x) c.args.all.now.orders.now bi c.requires.orders

pub set_memories-requires-clause-line : goal.set_memories-requires-clause-line
set_memories-requires-clause-line g c =
    let b = c.args.b.now in
    let e = c.set_stages.new.b in
    let x = c.args.all.now.line.now in
    let be = but_keeps (regs_of 0 (length b.regs)) b e (c.set_stages.ensures.extends 0 c.requires.apart) in
    let f = c.tails.new.b in
    let bf = keeps_trans b e f be (extends_keeps e f c.tails.ensures.extends) in
    let i = c.set_ports.new.b in
    let fi = c.in_ok-set_ports.ensures.extends.keeps in
    let bi = keeps_trans b f i bf fi in
    let h = c.set_orders.new.b in
    let ih = c.in_ok-set_orders.ensures.extends.keeps in
    let bh = keeps_trans b i h bi ih in
    let l = members g.L.LockModule in
    let locks = c.args.all.now.locks.now in
    line_keep b h x bh c.requires.line

pub set_memories-requires-clause-locked : goal.set_memories-requires-clause-locked
set_memories-requires-clause-locked g c =
    let b = c.args.b.now in
    let e = c.set_stages.new.b in
    let x = c.args.all.now.line.now in
    let be = but_keeps (regs_of 0 (length b.regs)) b e (c.set_stages.ensures.extends 0 c.requires.apart) in
    let f = c.tails.new.b in
    let bf = keeps_trans b e f be (extends_keeps e f c.tails.ensures.extends) in
    let i = c.set_ports.new.b in
    let fi = c.in_ok-set_ports.ensures.extends.keeps in
    let bi = keeps_trans b f i bf fi in
    let h = c.set_orders.new.b in
    let ih = c.in_ok-set_orders.ensures.extends.keeps in
    let bh = keeps_trans b i h bi ih in
    let l = members g.L.LockModule in
    let locks = c.args.all.now.locks.now in
    locked_kept l b h (line_pipe x) locks bh g.met.L.LockModule.stays c.requires.locked

pub set_memories-requires-clause-lawful : goal.set_memories-requires-clause-lawful
set_memories-requires-clause-lawful g c =
    let b = c.args.b.now in
    let e = c.set_stages.new.b in
    let x = c.args.all.now.line.now in
    let be = but_keeps (regs_of 0 (length b.regs)) b e (c.set_stages.ensures.extends 0 c.requires.apart) in
    let f = c.tails.new.b in
    let bf = keeps_trans b e f be (extends_keeps e f c.tails.ensures.extends) in
    let i = c.set_ports.new.b in
    let fi = c.in_ok-set_ports.ensures.extends.keeps in
    let bi = keeps_trans b f i bf fi in
    let h = c.set_orders.new.b in
    let ih = c.in_ok-set_orders.ensures.extends.keeps in
    let bh = keeps_trans b i h bi ih in
    let l = members g.L.LockModule in
    let locks = c.args.all.now.locks.now in
    laws_kept l b h (line_pipe x) locks bh c.requires.locked c.requires.lawful

pub set_memories-requires-clause-unwritten : goal.set_memories-requires-clause-unwritten
set_memories-requires-clause-unwritten g c =
    let b = c.args.b.now in
    let e = c.set_stages.new.b in
    let x = c.args.all.now.line.now in
    let be = but_keeps (regs_of 0 (length b.regs)) b e (c.set_stages.ensures.extends 0 c.requires.apart) in
    let f = c.tails.new.b in
    let bf = keeps_trans b e f be (extends_keeps e f c.tails.ensures.extends) in
    let i = c.set_ports.new.b in
    let fi = c.in_ok-set_ports.ensures.extends.keeps in
    let bi = keeps_trans b f i bf fi in
    let h = c.set_orders.new.b in
    let ih = c.in_ok-set_orders.ensures.extends.keeps in
    let bh = keeps_trans b i h bi ih in
    let l = members g.L.LockModule in
    let locks = c.args.all.now.locks.now in
    unwritten_kept b h (line_pipe x)
    (λ k has. c.in_ok-set_orders.ensures.extends.writes k (bi.has_array k has)
    ∙ c.in_ok-set_ports.ensures.extends.writes k (bf.has_array k has)
    ∙ c.tails.ensures.extends.writes k (be.has_array k has)
    ∙ (c.set_stages.ensures.extends 0 c.requires.apart).writes k has (inr (omega arith)))
    c.requires.locked.has_array c.requires.unwritten

pub set_memories-requires-clause-next : goal.set_memories-requires-clause-next
set_memories-requires-clause-next g c =
    let b = c.args.b.now in
    let e = c.set_stages.new.b in
    let x = c.args.all.now.line.now in
    let be = but_keeps (regs_of 0 (length b.regs)) b e (c.set_stages.ensures.extends 0 c.requires.apart) in
    let f = c.tails.new.b in
    let bf = keeps_trans b e f be (extends_keeps e f c.tails.ensures.extends) in
    let i = c.set_ports.new.b in
    let fi = c.in_ok-set_ports.ensures.extends.keeps in
    let bi = keeps_trans b f i bf fi in
    let h = c.set_orders.new.b in
    let ih = c.in_ok-set_orders.ensures.extends.keeps in
    let bh = keeps_trans b i h bi ih in
    let l = members g.L.LockModule in
    let locks = c.args.all.now.locks.now in
    next_kept l b h (line_pipe x) locks x.shared.now.next bh c.requires.locked c.requires.line.shared.next_there c.requires.next

pub set_memories-requires-clause-cut : goal.set_memories-requires-clause-cut
set_memories-requires-clause-cut g c =
    let b = c.args.b.now in
    let e = c.set_stages.new.b in
    let x = c.args.all.now.line.now in
    let be = but_keeps (regs_of 0 (length b.regs)) b e (c.set_stages.ensures.extends 0 c.requires.apart) in
    let f = c.tails.new.b in
    let bf = keeps_trans b e f be (extends_keeps e f c.tails.ensures.extends) in
    let i = c.set_ports.new.b in
    let fi = c.in_ok-set_ports.ensures.extends.keeps in
    let bi = keeps_trans b f i bf fi in
    let h = c.set_orders.new.b in
    let ih = c.in_ok-set_orders.ensures.extends.keeps in
    let bh = keeps_trans b i h bi ih in
    let l = members g.L.LockModule in
    let locks = c.args.all.now.locks.now in
    let fh = keeps_trans f i h fi ih in
    let eh = keeps_trans e f h (extends_keeps e f c.tails.ensures.extends) fh in
    let row = c.in_ok-tails.ensures.row in
    subst (AreTickets l h locks) (sym c.as_slice.ensures)
    (cut_fits l e f h (line_pipe x) locks c.in_ok-tails.tails.cut x.shared.now.next fh
    (locked_kept l b h (line_pipe x) locks bh g.met.L.LockModule.stays c.requires.locked) row.there row.wide
    (signals_keep e h x.shared.now.next eh (there_keeps b e x.shared.now.next be c.requires.line.shared.next_there))
    (next_kept l b h (line_pipe x) locks x.shared.now.next bh c.requires.locked c.requires.line.shared.next_there c.requires.next))
