use Rattle.std.proofs.Common.{◌∙◌, List, ap, sym, subst}
use Rattle.std.specs.Prelude.{not}
use Rattle.pdl_kit.specs.declared.mem_info.MemInfo.{MemInfo}
use Rattle.pdl_form.specs.View.{mem_view}
use Rattle.pdl_net.specs.Circuit.{Shape}
use Rattle.pdl_net.specs.Growth.{ExtendsArrays}
use Rattle.pdl_lockapi.specs.Laws.{arrays_of}
use Rattle.pdl_pipe_walk.specs.Locked.{Members}
use Rattle.pdl_pipe_locks.specs.Suited.{arrays_in}
use Rattle.pdl_pipe_locks.proofs.NewLock.{arrays_are, new_lock, new_unwritten}
use Rattle.pdl_pipe_locks.proofs.arrays.lay_lock.Goals as goal

pub emit_state-requires : goal.emit_state-requires
emit_state-requires g c = record { suits = subst (λ (i : MemInfo). g.L.LockModule.suits c.args.lock.now i) (sym c.in_ok-info.ensures) c.requires.served.suited }

pub returns-clause-lock : goal.returns-clause-lock
returns-clause-lock g c =
    let L = g.L.LockModule in
    let l : Members g.row.L.Denot = record { placed = L.placed; stands = L.stands; kind = L.kind_of; size = L.size; tickets = L.tickets } in
    let x = c.args.lock.now in
    let r = c.in_ok-regs.regs in
    let s = c.in_ok-regs.ensures in
    let i = c.in_ok-info.ensures in
    let m = mem_view c.args.m.now in
    let old = c.args.b.now in
    let new = c.emit_state.new.b in
    let shape = ap (arrays_of (L.kind_of x)) i ∙ arrays_are (L.kind_of x) (L.size x) c.args.m.now.name m c.requires.served.kind in
    let grows : ExtendsArrays old new (arrays_in c.args.m.now.name m) = subst (λ (fs : List Shape). ExtendsArrays old new fs) shape s.extends in
    new_lock l old new c.args.m.now.name m (record { lock = x; regs = r }) c.requires.served.kind grows
    (s.width ∙ ap (λ (y : MemInfo). y.width) i) (s.bits ∙ ap (λ (y : MemInfo). y.depth) i)
    (s.array ∙ ap (λ (y : MemInfo). not y.delayed) i) s.placed s.fragment s.nets s.second s.start s.places s.room s.room2 s.ticket

pub returns-clause-unwritten : goal.returns-clause-unwritten
returns-clause-unwritten g c comb =
    let L = g.L.LockModule in
    let x = c.args.lock.now in
    let r = c.in_ok-regs.regs in
    let s = c.in_ok-regs.ensures in
    let i = c.in_ok-info.ensures in
    let m = mem_view c.args.m.now in
    let old = c.args.b.now in
    let new = c.emit_state.new.b in
    let shape = ap (arrays_of (L.kind_of x)) i ∙ arrays_are (L.kind_of x) (L.size x) c.args.m.now.name m c.requires.served.kind in
    let grows : ExtendsArrays old new (arrays_in c.args.m.now.name m) = subst (λ (fs : List Shape). ExtendsArrays old new fs) shape s.extends in
    new_unwritten old new c.args.m.now.name m r comb grows (s.array ∙ ap (λ (y : MemInfo). not y.delayed) i) s.fragment s.empty

pub returns-clause-extends : goal.returns-clause-extends
returns-clause-extends g c =
    let L = g.L.LockModule in
    let x = c.args.lock.now in
    let m = mem_view c.args.m.now in
    let shape = ap (arrays_of (L.kind_of x)) c.in_ok-info.ensures ∙ arrays_are (L.kind_of x) (L.size x) c.args.m.now.name m c.requires.served.kind in
    subst (λ (fs : List Shape). ExtendsArrays c.args.b.now c.emit_state.new.b fs) shape c.in_ok-regs.ensures.extends
