use Rattle.std.proofs.Common.{◌+◌, ◌<◌, List, length, sym, arith, subst}
use Rattle.std.specs.Prelude.{Option}
use Rattle.pdl_form.specs.FormView.{form}
use Rattle.pdl_form.specs.View.{mem_view}
use Rattle.pdl_form_types.specs.Stmts.{IsTypedMem}
use Rattle.pdl_net.proofs.Keeps.{arrays_keeps, keeps_trans}
use Rattle.pdl_pipe_walk.specs.declared.locks.MemLock.{MemLock}
use Rattle.pdl_pipe_walk.specs.Locked.{Members}
use Rattle.pdl_pipe_locks.proofs.MadeMemories.{AreMadeTo, mem_is, mem_count, name_is, name_count, typed_at, served_at, made_none, made_more, all_extends, all_locked, all_lawful, all_unwritten, all_above}
use Rattle.pdl_pipe_locks.proofs.arrays.lay_memories.Goals as goal

pub loop-m-init : goal.loop-m-init
loop-m-init g c =
    let L = g.L.LockModule in
    let l : Members g.row.L.Denot = record { placed = L.placed; stands = L.stands; kind = L.kind_of; size = L.size; tickets = L.tickets } in
    let f = form c.args.pipe.now in
    let a = c.args.b.now in
    record {
      made = subst (λ (xs : List (Option (MemLock g.row.L.Denot))). AreMadeTo l a a f.names f.pipe xs 0)
          (sym c.new-made.ensures.items) (made_none l a f.names f.pipe c.requires.none);
    }

pub lay_memory-requires-clause-typed : goal.lay_memory-requires-clause-typed
lay_memory-requires-clause-typed g c =
    let p = (form c.args.pipe.now).pipe in
    let ms = c.mems-mems.result.now in
    let is = mem_is p ms c.loop-m.m c.mem_at-mem.result.now c.mems-mems.ensures.mems c.loop-m-test.true c.mem_at-mem.ensures in
    subst IsTypedMem (sym is) (typed_at p.mems c.loop-m.m (omega (arith, c.loop-m-test.true, mem_count p ms c.mems-mems.ensures.mems)) c.requires.mems)

pub lay_memory-requires-clause-served : goal.lay_memory-requires-clause-served
lay_memory-requires-clause-served g c =
    let L = g.L.LockModule in
    let l : Members g.row.L.Denot = record { placed = L.placed; stands = L.stands; kind = L.kind_of; size = L.size; tickets = L.tickets } in
    let f = form c.args.pipe.now in
    let ms = c.mems-mems.result.now in
    let x = c.mem_at-mem.result.now in
    let i = c.loop-m.m in
    served_at L.suits l f c.args.locks.now i x.name (mem_view x) c.lock_at-lock.result.now c.requires.suited
    (omega (arith, c.loop-m-test.true, mem_count f.pipe ms c.mems-mems.ensures.mems))
    (name_is f.names ms i x c.mems-mems.ensures.names c.loop-m-test.true c.mem_at-mem.ensures)
    (mem_is f.pipe ms i x c.mems-mems.ensures.mems c.loop-m-test.true c.mem_at-mem.ensures) c.lock_at-lock.ensures

pub loop-m-preserved : goal.loop-m-preserved
loop-m-preserved g c =
    let L = g.L.LockModule in
    let l : Members g.row.L.Denot = record { placed = L.placed; stands = L.stands; kind = L.kind_of; size = L.size; tickets = L.tickets } in
    let f = form c.args.pipe.now in
    let ms = c.mems-mems.result.now in
    let x = c.mem_at-mem.result.now in
    let i = c.loop-m.m in
    let a = c.args.b.now in
    let b = c.loop-m.b in
    let d = c.lay_memory.new.b in
    let s = c.in_ok-one.ensures in
    let count = mem_count f.pipe ms c.mems-mems.ensures.mems in
    let named = name_count f.names f.pipe ms c.mems-mems.ensures.names c.mems-mems.ensures.mems in
    let low : i < length f.pipe.mems = omega (arith, c.loop-m-test.true, count) in
    let more =
    made_more l g.met.L.LockModule.stays a b d f.names f.pipe c.loop-m.made.items i x.name (mem_view x) c.in_ok-one.one low (omega (arith, low, named))
    (name_is f.names ms i x c.mems-mems.ensures.names c.loop-m-test.true c.mem_at-mem.ensures)
    (mem_is f.pipe ms i x c.mems-mems.ensures.mems c.loop-m-test.true c.mem_at-mem.ensures)
    s.extends s.unwritten s.memory c.loop-m.invariant.made in
    record { made = subst (λ (xs : List (Option (MemLock g.row.L.Denot))). AreMadeTo l a d f.names f.pipe xs (i + 1)) (sym c.in_ok-push.ensures.items) more }

pub returns-clause-locked : goal.returns-clause-locked
returns-clause-locked g c =
    let L = g.L.LockModule in
    let l : Members g.row.L.Denot = record { placed = L.placed; stands = L.stands; kind = L.kind_of; size = L.size; tickets = L.tickets } in
    let f = form c.args.pipe.now in
    let ms = c.mems-mems.result.now in
    let count = mem_count f.pipe ms c.mems-mems.ensures.mems in
    let named = name_count f.names f.pipe ms c.mems-mems.ensures.names c.mems-mems.ensures.mems in
    all_locked l c.args.b.now c.loop-m.b f.names f.pipe c.loop-m.made.items c.loop-m.m named
    (omega (arith, c.loop-m-test.false, c.loop-m.auto.m-end, count)) c.loop-m.invariant.made

pub returns-clause-lawful : goal.returns-clause-lawful
returns-clause-lawful g c =
    let L = g.L.LockModule in
    let l : Members g.row.L.Denot = record { placed = L.placed; stands = L.stands; kind = L.kind_of; size = L.size; tickets = L.tickets } in
    let f = form c.args.pipe.now in
    let ms = c.mems-mems.result.now in
    let count = mem_count f.pipe ms c.mems-mems.ensures.mems in
    let named = name_count f.names f.pipe ms c.mems-mems.ensures.names c.mems-mems.ensures.mems in
    all_lawful l c.args.b.now c.loop-m.b f.names f.pipe c.loop-m.made.items c.loop-m.m named
    (omega (arith, c.loop-m-test.false, c.loop-m.auto.m-end, count)) c.loop-m.invariant.made

pub returns-clause-above : goal.returns-clause-above
returns-clause-above g c =
    let L = g.L.LockModule in
    let l : Members g.row.L.Denot = record { placed = L.placed; stands = L.stands; kind = L.kind_of; size = L.size; tickets = L.tickets } in
    let f = form c.args.pipe.now in
    let ms = c.mems-mems.result.now in
    let count = mem_count f.pipe ms c.mems-mems.ensures.mems in
    let named = name_count f.names f.pipe ms c.mems-mems.ensures.names c.mems-mems.ensures.mems in
    all_above l c.args.b.now c.loop-m.b f.names f.pipe c.loop-m.made.items c.loop-m.m named
    (omega (arith, c.loop-m-test.false, c.loop-m.auto.m-end, count)) c.loop-m.invariant.made

pub returns-clause-unwritten : goal.returns-clause-unwritten
returns-clause-unwritten g c =
    let L = g.L.LockModule in
    let l : Members g.row.L.Denot = record { placed = L.placed; stands = L.stands; kind = L.kind_of; size = L.size; tickets = L.tickets } in
    let f = form c.args.pipe.now in
    let ms = c.mems-mems.result.now in
    let count = mem_count f.pipe ms c.mems-mems.ensures.mems in
    let named = name_count f.names f.pipe ms c.mems-mems.ensures.names c.mems-mems.ensures.mems in
    all_unwritten l c.args.b.now c.loop-m.b f.names f.pipe c.loop-m.made.items c.loop-m.m named
    (omega (arith, c.loop-m-test.false, c.loop-m.auto.m-end, count)) c.loop-m.invariant.made

pub returns-clause-extends : goal.returns-clause-extends
returns-clause-extends g c =
    let L = g.L.LockModule in
    let l : Members g.row.L.Denot = record { placed = L.placed; stands = L.stands; kind = L.kind_of; size = L.size; tickets = L.tickets } in
    let f = form c.args.pipe.now in
    let ms = c.mems-mems.result.now in
    let count = mem_count f.pipe ms c.mems-mems.ensures.mems in
    let named = name_count f.names f.pipe ms c.mems-mems.ensures.names c.mems-mems.ensures.mems in
    all_extends l c.args.b.now c.loop-m.b f.names f.pipe c.loop-m.made.items c.loop-m.m named
    (omega (arith, c.loop-m-test.false, c.loop-m.auto.m-end, count)) c.loop-m.invariant.made

pub returns-in_err-one-clause-keeps : goal.returns-in_err-one-clause-keeps
returns-in_err-one-clause-keeps g c =
    let h = c.loop-m.invariant.made in
    keeps_trans c.args.b.now c.loop-m.b c.lay_memory.new.b (arrays_keeps c.args.b.now c.loop-m.b h.added h.extends) c.lay_memory.ensures.keeps

pub returns-in_err-push-clause-keeps : goal.returns-in_err-push-clause-keeps
returns-in_err-push-clause-keeps g c =
    let h = c.loop-m.invariant.made in
    keeps_trans c.args.b.now c.loop-m.b c.lay_memory.new.b (arrays_keeps c.args.b.now c.loop-m.b h.added h.extends) c.lay_memory.ensures.keeps

pub returns-clause-keeps : goal.returns-clause-keeps
returns-clause-keeps g c =
    let h = c.loop-m.invariant.made in
    arrays_keeps c.args.b.now c.loop-m.b h.added h.extends
