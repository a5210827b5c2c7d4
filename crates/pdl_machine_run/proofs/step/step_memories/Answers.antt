use Rattle.std.proofs.Common.{◌≡◌, ◌<◌, ◌∙◌, sym, ap, refl, length, arith}
use Rattle.std.proofs.lemmas.List.{length-set}
use Rattle.pdl_machine_pending.specs.Memory.{Memory}
use Rattle.pdl_machine_pending.proofs.Sweeps.{swept_left}
use Rattle.pdl_machine_run.specs.Acts.{acts_of, out_of, memory_after}
use Rattle.pdl_machine_run.proofs.MemorySteps.{steps_more, stepped_more, shown_more}
use Rattle.pdl_machine_run.proofs.step.step_memories.Goals as goal

pub loop-m-preserved : goal.loop-m-preserved
loop-m-preserved c =
    let now = c.loop-m.memories in
    let all = c.args.memories.now in
    let m = c.loop-m.m in
    let x = c.index-memories-m.result in
    let y = c.step_memory-taken.new.memory in
    let ms = acts_of 0 c.args.stages.now in
    let less : m < length now = omega arith in
    let told : m < length c.args.twice.now = omega arith in
    let count = c.loop-m.auto.memories in
    let same = sym c.index-memories-m.is in
    let memory : y ≡ memory_after m ms c.args.squasher x = c.step_memory-taken.ensures.memory ∙ ap (memory_after m ms c.args.squasher) same in
    let taken = c.step_memory-taken.ensures.result ∙ ap (λ (z : Memory). out_of m ms z.pending) same in
    let lock : y.lock ≡ x.lock = ap (λ (z : Memory). z.lock) memory in
    let invariant = c.loop-m.invariant in
    record {
      done = stepped_more now all m x less count c.index-memories-m.is invariant.left ms c.args.squasher y _ memory invariant.done;
      left = swept_left (λ (z : Memory). z) now all m y x less count invariant.left;
      steps = (steps_more now all m x less count c.index-memories-m.is invariant.left ms invariant.steps).1;
      shown =
          shown_more now all m x less count c.index-memories-m.is invariant.left c.args.twice.now ms _ y.lock _ _ _ _ told refl lock
          taken c.show_commits.ensures.shown invariant.shown;
      room = omega (arith, length-set now m y);
      capacity = c.show_commits.ensures.capacity ∙ invariant.capacity;
    }
