use Rattle.std.proofs.Common.{◌≡◌, ◌+◌, ◌<◌, List, length, sym, arith, subst}
use Rattle.std.specs.Prelude.{Option}
use Rattle.pdl_form.specs.FormView.{form}
use Rattle.pdl_lockapi.specs.declared.LockNets.{LockNets}
use Rattle.pdl_pipe_walk.specs.Locked.{Members}
use Rattle.pdl_pipe_walk.proofs.NetGrowth.{bits_keep}
use Rattle.pdl_pipe_locks.specs.Deeds.{steps_in}
use Rattle.pdl_pipe_locks.specs.Stepped.{AreStepped, ExtendsLocks}
use Rattle.pdl_pipe_locks.proofs.MadeMemories.{mem_count}
use Rattle.pdl_pipe_locks.proofs.LockGrowth.{locked_kept, deeds_kept, squash_kept, step_same}
use Rattle.pdl_pipe_locks.proofs.LockSteps.{locks_none, locks_more, locks_wider, stepped_none, stepped_more, still_unwritten}
use Rattle.pdl_pipe_locks.proofs.steps.set_locks.Goals as goal

pub loop-m-init : goal.loop-m-init
loop-m-init g c =
    let L = g.L.LockModule in
    let l : Members g.row.L.Denot = record { placed = L.placed; stands = L.stands; kind = L.kind_of; size = L.size; tickets = L.tickets } in
    let p = (form c.args.round.now.pipe.now).pipe in
    let a = c.args.b.now in
    let xs = c.args.round.now.locks.now in
    let ds = c.args.round.now.deeds.now in
    let f = steps_in a p ds c.args.round.now.squash c.args.round.now.tails.now in
    record {
      stepped =
          subst (λ (ns : List (Option LockNets)). AreStepped l a p f xs ns 0) (sym c.new-nets.ensures.items)
          (stepped_none l a p xs c.requires.locked c.requires.lawful f);
      extends = locks_none xs a;
    }

pub set_memory_lock-requires-clause-bits : goal.set_memory_lock-requires-clause-bits
set_memory_lock-requires-clause-bits g c = bits_keep c.args.b.now c.loop-m.b c.args.round.now.bits c.loop-m.invariant.extends.keeps c.requires.bits

pub set_memory_lock-requires-clause-locked : goal.set_memory_lock-requires-clause-locked
set_memory_lock-requires-clause-locked g c =
    let L = g.L.LockModule in
    let l : Members g.row.L.Denot = record { placed = L.placed; stands = L.stands; kind = L.kind_of; size = L.size; tickets = L.tickets } in
    locked_kept l c.args.b.now c.loop-m.b
    (form c.args.round.now.pipe.now).pipe c.args.round.now.locks.now c.loop-m.invariant.extends.keeps g.met.L.LockModule.stays c.requires.locked

pub set_memory_lock-requires-clause-unwritten : goal.set_memory_lock-requires-clause-unwritten
set_memory_lock-requires-clause-unwritten g c held once =
    let L = g.L.LockModule in
    let l : Members g.row.L.Denot = record { placed = L.placed; stands = L.stands; kind = L.kind_of; size = L.size; tickets = L.tickets } in
    let p = (form c.args.round.now.pipe.now).pipe in
    let low : c.loop-m.m < length p.mems = omega (arith, c.loop-m-test.true, mem_count p c.mems-m-end.result.now c.mems-m-end.ensures.mems) in
    still_unwritten l c.args.b.now p c.args.round.now.locks.now c.requires.locked c.requires.lawful c.loop-m.m c.loop-m.b low once c.loop-m.invariant.extends
    (c.requires.unwritten c.loop-m.m low held once)

pub set_memory_lock-requires-clause-deeds : goal.set_memory_lock-requires-clause-deeds
set_memory_lock-requires-clause-deeds g c =
    let L = g.L.LockModule in
    let l : Members g.row.L.Denot = record { placed = L.placed; stands = L.stands; kind = L.kind_of; size = L.size; tickets = L.tickets } in
    let f = form c.args.round.now.pipe.now in
    deeds_kept l c.args.b.now c.loop-m.b f.pipe f.widths c.args.round.now.locks.now c.args.round.now.deeds.now c.loop-m.invariant.extends.keeps c.requires.deeds

pub set_memory_lock-requires-clause-squash : goal.set_memory_lock-requires-clause-squash
set_memory_lock-requires-clause-squash g c =
    let L = g.L.LockModule in
    let l : Members g.row.L.Denot = record { placed = L.placed; stands = L.stands; kind = L.kind_of; size = L.size; tickets = L.tickets } in
    squash_kept l c.args.b.now c.loop-m.b c.args.round.now.locks.now c.args.round.now.squash c.args.round.now.tails.now c.loop-m.invariant.extends.keeps c.requires.squash

pub loop-m-preserved : goal.loop-m-preserved
loop-m-preserved g c =
    let L = g.L.LockModule in
    let l : Members g.row.L.Denot = record { placed = L.placed; stands = L.stands; kind = L.kind_of; size = L.size; tickets = L.tickets } in
    let form = form c.args.round.now.pipe.now in
    let p = form.pipe in
    let a = c.args.b.now in
    let b = c.loop-m.b in
    let d = c.set_memory_lock.new.b in
    let m = c.loop-m.m in
    let xs = c.args.round.now.locks.now in
    let ds = c.args.round.now.deeds.now in
    let v = c.loop-m.invariant in
    let x = c.in_ok-net.ensures in
    let low : m < length p.mems = omega (arith, c.loop-m-test.true, mem_count p c.mems-m-end.result.now c.mems-m-end.ensures.mems) in
    let f = steps_in a p ds c.args.round.now.squash c.args.round.now.tails.now in
    let h = steps_in b p ds c.args.round.now.squash c.args.round.now.tails.now m in
    let same : h ≡ f m =
    step_same l a b p form.widths xs ds c.args.round.now.squash c.args.round.now.tails.now m v.extends.keeps c.requires.deeds c.requires.squash in
    let more =
    stepped_more l a p xs c.requires.locked c.requires.lawful m b d f h c.loop-m.nets.items c.in_ok-net.net low same v.extends.keeps x.extends x.stepped v.stepped in
    record {
      stepped = subst (λ (ns : List (Option LockNets)). AreStepped l d p f xs ns (m + 1)) (sym c.in_ok-push.ensures.items) more;
      extends = locks_more xs m a b d v.extends x.extends;
    }

pub returns-clause-stepped : goal.returns-clause-stepped
returns-clause-stepped g c =
    let L = g.L.LockModule in
    let l : Members g.row.L.Denot = record { placed = L.placed; stands = L.stands; kind = L.kind_of; size = L.size; tickets = L.tickets } in
    let p = (form c.args.round.now.pipe.now).pipe in
    let a = c.args.b.now in
    let xs = c.args.round.now.locks.now in
    let ds = c.args.round.now.deeds.now in
    let f = steps_in a p ds c.args.round.now.squash c.args.round.now.tails.now in
    let n : c.loop-m.m ≡ length p.mems =
    omega (arith, c.loop-m-test.false, c.loop-m.auto.m-end, mem_count p c.mems-m-end.result.now c.mems-m-end.ensures.mems) in
    subst (λ i. AreStepped l c.loop-m.b p f xs c.loop-m.nets.items i) n c.loop-m.invariant.stepped

pub returns-clause-extends : goal.returns-clause-extends
returns-clause-extends g c =
    let p = (form c.args.round.now.pipe.now).pipe in
    let n : c.loop-m.m ≡ length p.mems =
    omega (arith, c.loop-m-test.false, c.loop-m.auto.m-end, mem_count p c.mems-m-end.result.now c.mems-m-end.ensures.mems) in
    subst (λ i. ExtendsLocks c.args.round.now.locks.now i c.args.b.now c.loop-m.b) n c.loop-m.invariant.extends

pub returns-in_err-net-clause-extends : goal.returns-in_err-net-clause-extends
returns-in_err-net-clause-extends g c =
    let p = (form c.args.round.now.pipe.now).pipe in
    let xs = c.args.round.now.locks.now in
    let m = c.loop-m.m in
    let low : m < length p.mems = omega (arith, c.loop-m-test.true, mem_count p c.mems-m-end.result.now c.mems-m-end.ensures.mems) in
    locks_wider xs (m + 1) (length p.mems) c.args.b.now c.set_memory_lock.new.b (omega (arith, low))
    (locks_more xs m c.args.b.now c.loop-m.b c.set_memory_lock.new.b c.loop-m.invariant.extends c.set_memory_lock.ensures.extends)

pub returns-in_err-push-clause-extends : goal.returns-in_err-push-clause-extends
returns-in_err-push-clause-extends g c =
    let p = (form c.args.round.now.pipe.now).pipe in
    let xs = c.args.round.now.locks.now in
    let m = c.loop-m.m in
    let low : m < length p.mems = omega (arith, c.loop-m-test.true, mem_count p c.mems-m-end.result.now c.mems-m-end.ensures.mems) in
    locks_wider xs (m + 1) (length p.mems) c.args.b.now c.set_memory_lock.new.b (omega (arith, low))
    (locks_more xs m c.args.b.now c.loop-m.b c.set_memory_lock.new.b c.loop-m.invariant.extends c.set_memory_lock.ensures.extends)
