use Rattle.pdl_form.specs.FormView.{form}
use Rattle.pdl_pipe_locks.proofs.AdviceStages.{StagesAdvised}
use Rattle.pdl_pipe_locks.proofs.advice.set_advice.Given as goal

-- the ports of the last stages have come
abbrev pub invariant-loop-i : goal.invariant-loop-i
invariant-loop-i g l = StagesAdvised (form l.round.pipe.now).pipe l.fn.b l.b l.round.deeds.now l.i
