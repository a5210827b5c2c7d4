use Rattle.pdl_pipe_lives.proofs.LastStages.{but_more, forks_next}
use Rattle.pdl_pipe_lives.proofs.needs.note_forks.Goals as goal

pub loop-stage-preserved : goal.loop-stage-preserved
loop-stage-preserved c =
    but_more _ _ _ _ _ _ _ c.loop-stage.invariant c.note_fork.ensures
    (λ k x. forks_next k c.loop-stage.stage x c.args.stages.now _ c.loop-stage-test.true)
