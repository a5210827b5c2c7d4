use Rattle.std.proofs.Common.{◌≡◌, ◌≤◌, ◌<◌, ◌+◌, ◌-◌, sym, subst, drop, length, arith}
use Rattle.pdl_semantics.specs.Cycle as stated
use Rattle.pdl_machine_pending.specs.Memory.{Memory}
use Rattle.pdl_machine_run.specs.Acts.{mover_of, act_of, acts_of}
use Rattle.pdl_machine_run.proofs.MoverDeeds.{room_here}
use Rattle.pdl_machine_run.proofs.step.reserve_all.Goals as goal

pub reserve_stage-requires : goal.reserve_stage-requires
reserve_stage-requires c i =
    let xs = c.args.stages.now in
    let x = c.index-stages-k.result in
    let j = c.loop-k.k - 1 in
    let here : j < length xs = omega arith in
    let next : j + 1 ≡ c.loop-k.k = omega arith in
    let room = room_here c.args.m i j xs x x c.args.memory.now.pending c.args.memory.now.capacity here c.index-stages-k.is c.requires.room in
    let at =
    subst
    (λ k. length
    (stated.with_reserves c.args.m (act_of i (mover_of x) x)
    (stated.with_reserves c.args.m (acts_of k (drop k xs)) c.args.memory.now.pending)) ≤ c.args.memory.now.capacity) next room in
    subst (λ (y : Memory). length (stated.with_reserves c.args.m (act_of i (mover_of x) x) y.pending) ≤ y.capacity) (sym c.loop-k.invariant.done) at
