use Rattle.std.proofs.Common.{ap₂, ◌∙◌, [], ◌∷◌, ◌++◌}
use Rattle.pdl_syntax_tree.specs.View.{mem_view, pipe_view}
use Rattle.pdl_locks.specs.Plan.{stages_of}
use Rattle.pdl_locks.proofs.FirstMatch.{one_more}
use Rattle.pdl_locks.proofs.plan.LockPlan.of.Goals as goal

pub loop-mem-preserved : goal.loop-mem-preserved
loop-mem-preserved c =
    let p = pipe_view c.args.pipe.now in
    c.in_ok-push.ensures.items
    ∙ ap₂ (λ ms m. ms ++ m ∷ []) c.loop-mem.invariant (c.stages_of.ensures p c.requires.of)
    ∙ one_more (stages_of p) mem_view c.as_slice-mem-items.result.now c.loop-mem.mem-index c.mem-item.result c.loop-mem-test.true c.mem-item.is
