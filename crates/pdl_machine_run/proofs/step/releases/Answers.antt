use Rattle.std.proofs.Common.{◌≡◌, ◌<◌, ◌+◌, ◌-◌, ap, drop, length, arith}
use Rattle.pdl_semantics.specs.Cycle as stated
use Rattle.pdl_machine_run.specs.Acts.{acts_of}
use Rattle.pdl_machine_run.proofs.MoverDeeds.{few_here}
use Rattle.pdl_machine_run.proofs.step.releases.Goals as goal

pub overflow_add-count : goal.overflow_add-count
overflow_add-count c =
    let xs = c.args.stages.now in
    let x = c.index-stages-k.result in
    let j = c.loop-k.k - 1 in
    let here : j < length xs = omega arith in
    let next : j + 1 ≡ c.loop-k.k = omega arith in
    let few = few_here c.args.m 0 j xs x x here c.index-stages-k.is in
    let one = c.stage_releases-count.ensures 0 in
    let rest = ap (λ k. stated.all_releases c.args.m (acts_of k (drop k xs))) next in
    let done = c.loop-k.invariant.done in
    let most = c.requires in
    omega arith
