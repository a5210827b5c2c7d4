use Rattle.pdl_form.specs.FormView.{form}
use Rattle.pdl_pipe_walk.specs.Locked.{members}
use Rattle.pdl_pipe_locks.specs.Deeds.{steps_in}
use Rattle.pdl_pipe_locks.specs.Stepped.{AreStepped, ExtendsLocks}
use Rattle.pdl_pipe_locks.proofs.steps.set_locks.Given as goal

-- the locks of the first memories have made their steps
abbrev pub invariant-loop-m : goal.invariant-loop-m
invariant-loop-m g l = record {
  stepped : AreStepped (members g.L.LockModule) l.b (form l.round.pipe.now).pipe
      (steps_in l.fn.b (form l.round.pipe.now).pipe l.round.deeds.now l.round.squash l.round.tails.now) l.round.locks.now l.nets.items l.m;
  extends : ExtendsLocks l.round.locks.now l.m l.fn.b l.b;
}
