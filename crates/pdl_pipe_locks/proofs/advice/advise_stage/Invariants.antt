use Rattle.pdl_form.specs.FormView.{form}
use Rattle.pdl_pipe_locks.proofs.AdviceStages.{AdvisedUpTo}
use Rattle.pdl_pipe_locks.proofs.advice.advise_stage.Given as goal

-- the ports of the first writes have come
abbrev pub invariant-loop-x : goal.invariant-loop-x
invariant-loop-x l = AdvisedUpTo (form l.pipe).pipe l.fn.b l.b l.moves l.advises l.x-index
