use Rattle.std.proofs.Common.{◌≡◌, ◌+◌, ◌∙◌, sym, ap, suc, List, drop, arith}
use Rattle.pdl_semantics.specs.Cycle as stated
use Rattle.pdl_word.proofs.Lists.{drop_next}
use Rattle.pdl_machine_run.specs.declared.stage.Stage as r_stage
use Rattle.pdl_machine_run.specs.Acts.{mover_of, acts_of}
use Rattle.pdl_machine_run.proofs.ActLists.{squasher_on}
use Rattle.pdl_machine_run.proofs.moves.squasher.Goals as goal

pub loop-stage-preserved : goal.loop-stage-preserved
loop-stage-preserved c =
    let xs = c.args.stages.now in
    let i = c.loop-stage.stage-index in
    let x = c.stage-item.result in
    let up : suc i ≡ i + 1 = omega arith in
    sym (ap (λ k. stated.squasher (acts_of k (drop (i + 1) xs))) up)
    ∙ sym (squasher_on i (mover_of x) x (acts_of (suc i) (drop (i + 1) xs)) (sym (c.in-None.ensures i)))
    ∙ ap (λ (ys : List r_stage.Stage). stated.squasher (acts_of i ys)) (sym (drop_next xs i x c.loop-stage-test.true c.stage-item.is))
    ∙ c.loop-stage.invariant
