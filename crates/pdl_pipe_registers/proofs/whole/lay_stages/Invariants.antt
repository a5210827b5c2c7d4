use Rattle.pdl_form.specs.FormView.{form}
use Rattle.pdl_pipe_answers.specs.Ports.{answers_in}
use Rattle.pdl_pipe_walk.specs.Locked.{members, locks_in}
use Rattle.pdl_pipe_registers.specs.Staged.{next_signals}
use Rattle.pdl_pipe_registers.proofs.StagesMade.{StagesSoFar}
use Rattle.pdl_pipe_registers.proofs.whole.lay_stages.Given as goal

-- the first stages are made
abbrev pub invariant-loop : goal.invariant-loop
invariant-loop g l =
    StagesSoFar l.fn.b l.b (form l.pipe) (next_signals l.fn.b l.locks) (answers_in l.fn.b l.shared.ports.now)
    (locks_in (members g.L.LockModule) (form l.pipe).pipe l.fn.b l.locks) l.shared l.stages.items l.counter
