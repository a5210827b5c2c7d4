use Rattle.std.proofs.Common.{Bool, false, List, length, sym, ap, ◌∙◌, arith, subst}
use Rattle.std.specs.Prelude.{slice_index_or, is_some}
use Rattle.pdl_form.specs.FormView.{form}
use Rattle.pdl_semantics.specs.Stages.{mem_at}
use Rattle.pdl_net.specs.Circuit.{HasArray}
use Rattle.pdl_net.specs.Meaning.{signal}
use Rattle.pdl_lockapi.specs.Laws.{StepSignals, HidesLaw, StepLaw, own}
use Rattle.pdl_lockapi.specs.Second.{Commit2Law}
use Rattle.pdl_law_parts.specs.Places.{comb_place}
use Rattle.pdl_pipe_walk.specs.Locked.{Members, some_at}
use Rattle.pdl_law_parts.proofs.TwiceFlags.{flag_count, flag_is}
use Rattle.pdl_pipe_locks.specs.Deeds.{steps_in}
use Rattle.pdl_pipe_locks.specs.Round.{is_twice}
use Rattle.pdl_pipe_locks.proofs.Places.{at_place, unwritten_place}
use Rattle.pdl_pipe_locks.proofs.DeedsFit.{all_given, signals_fit}
use Rattle.pdl_pipe_locks.proofs.LockGrowth.{signals_are}
use Rattle.pdl_pipe_locks.proofs.LockSteps.{is_stepped, stepped_some, stepped_not}
use Rattle.pdl_pipe_locks.proofs.steps.set_memory_lock.Goals as goal

pub returns-in-None-clause-stepped : goal.returns-in-None-clause-stepped
returns-in-None-clause-stepped g c =
    let L = g.L.LockModule in
    let l : Members g.row.L.Denot = record { placed = L.placed; stands = L.stands; kind = L.kind_of; size = L.size; tickets = L.tickets } in
    let p = (form c.args.round.now.pipe.now).pipe in
    let a = c.args.b.now in
    let xs = c.args.round.now.locks.now in
    let ds = c.args.round.now.deeds.now in
    stepped_not l a (mem_at p c.args.m) (steps_in a p ds c.args.round.now.squash c.args.round.now.tails.now c.args.m)
    (some_at xs c.args.m) (sym c.lock_at.ensures ∙ c.in-None.is)

pub set_lock-requires-clause-array : goal.set_lock-requires-clause-array
set_lock-requires-clause-array g c i e =
    let p = (form c.args.round.now.pipe.now).pipe in
    let it = c.requires.locked.locks c.args.m c.in-Some.x c.requires.low (sym c.lock_at.ensures ∙ c.in-Some.is) in
    let q = at_place (mem_at p c.args.m) (comb_place p c.args.m) c.in-Some.x.regs.array it.array i e in
    subst (HasArray c.args.b.now) (sym q.1) (c.requires.locked.has_array c.args.m c.requires.low q.0)

pub set_lock-requires-clause-empty : goal.set_lock-requires-clause-empty
set_lock-requires-clause-empty g c =
    let p = (form c.args.round.now.pipe.now).pipe in
    let it = c.requires.locked.locks c.args.m c.in-Some.x c.requires.low (sym c.lock_at.ensures ∙ c.in-Some.is) in
    unwritten_place (mem_at p c.args.m) (comb_place p c.args.m) c.in-Some.x.regs.array it.array c.args.b.now
    (c.requires.unwritten (sym (c.requires.locked.locked c.args.m c.requires.low) ∙ ap is_some (sym c.lock_at.ensures ∙ c.in-Some.is)))

pub set_lock-requires-clause-tail : goal.set_lock-requires-clause-tail
set_lock-requires-clause-tail g c = omega (arith, c.requires.low, c.requires.locked.count, c.requires.squash.tails.count)

pub set_lock-requires-clause-twice : goal.set_lock-requires-clause-twice
set_lock-requires-clause-twice g c =
    let p = (form c.args.round.now.pipe.now).pipe in
    omega (arith, c.requires.low, ap length c.requires.twice, flag_count p.stmts 0 p.mems)

pub set_lock-requires-clause-given : goal.set_lock-requires-clause-given
set_lock-requires-clause-given g c =
    let L = g.L.LockModule in
    let l : Members g.row.L.Denot = record { placed = L.placed; stands = L.stands; kind = L.kind_of; size = L.size; tickets = L.tickets } in
    let f = form c.args.round.now.pipe.now in
    all_given l c.args.b.now f.pipe f.widths c.args.round.now.locks.now c.args.m c.args.round.now.deeds.now
    (omega (arith, c.requires.low, c.requires.locked.count)) c.requires.deeds.each

pub set_lock-requires-clause-fit : goal.set_lock-requires-clause-fit
set_lock-requires-clause-fit g c =
    let L = g.L.LockModule in
    let l : Members g.row.L.Denot = record { placed = L.placed; stands = L.stands; kind = L.kind_of; size = L.size; tickets = L.tickets } in
    let f = form c.args.round.now.pipe.now in
    let e = sym c.lock_at.ensures ∙ c.in-Some.is in
    signals_fit l c.args.b.now f.pipe f.widths c.args.round.now.locks.now (is_twice c.args.round.now c.args.m) c.args.m c.in-Some.x c.args.round.now.deeds.now
    (omega (arith, c.requires.low, c.requires.locked.count)) e
    (c.requires.locked.locks c.args.m c.in-Some.x c.requires.low e) c.requires.deeds.each c.args.round.now.squash c.args.round.now.tails.now c.requires.squash

pub returns-in_ok-nets-in-Some-clause-stepped : goal.returns-in_ok-nets-in-Some-clause-stepped
returns-in_ok-nets-in-Some-clause-stepped g c =
    let L = g.L.LockModule in
    let l : Members g.row.L.Denot = record { placed = L.placed; stands = L.stands; kind = L.kind_of; size = L.size; tickets = L.tickets } in
    let f = form c.args.round.now.pipe.now in
    let p = f.pipe in
    let a = c.args.b.now in
    let d = c.set_lock.new.b in
    let m = c.args.m in
    let xs = c.args.round.now.locks.now in
    let ds = c.args.round.now.deeds.now in
    let x = c.in-Some.x in
    let n = c.in_ok-nets-in-Some.nets in
    let h = c.in_ok-nets-in-Some.ensures in
    let e = sym c.lock_at.ensures ∙ c.in-Some.is in
    let signals = steps_in a p ds c.args.round.now.squash c.args.round.now.tails.now m in
    let flag = ap (λ (bs : List Bool). slice_index_or bs m false) c.requires.twice ∙ flag_is p.stmts p.mems m c.requires.low in
    let same =
    signals_are l a p f.widths xs ds c.args.round.now.squash c.args.round.now.tails.now m (is_twice c.args.round.now m) c.requires.deeds flag in
    let law =
    subst
    (λ (s : StepSignals). StepLaw (L.stands x.lock x.regs) (L.size x.lock) (L.tickets x.lock)
    (own x.regs) d s (signal d n.commit) (signal d n.addr) (signal d n.value)) same h.law in
    let law2 =
    subst
    (λ (s : StepSignals). Commit2Law (L.stands x.lock x.regs) (L.size x.lock) (L.tickets x.lock)
    s (signal d n.commit2) (signal d n.addr2) (signal d n.value2)) same h.law2 in
    let hides = subst (λ (s : StepSignals). HidesLaw (L.kind_of x.lock) d (own x.regs) s) same h.hides in
    stepped_some l d (mem_at p m) signals (some_at xs m) x n e
    (is_stepped l a d (comb_place p m) (mem_at p m) signals x n (c.requires.locked.locks m x c.requires.low e) h.nets h.nets2 law law2 hides)
