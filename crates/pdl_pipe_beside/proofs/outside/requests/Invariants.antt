use Rattle.pdl_form.specs.FormView.{form}
use Rattle.pdl_net.specs.Growth.{Extends}
use Rattle.pdl_pipe_beside.specs.Requests.{AreRequests}
use Rattle.pdl_pipe_beside.proofs.outside.requests.Given as goal

-- those of the first memories
abbrev pub invariant-loop-m : goal.invariant-loop-m
invariant-loop-m l = record {
  asks : AreRequests l.fn.b l.b (form l.round.pipe.now).pipe l.round.ends.now l.found.items l.m;
  extends : Extends l.fn.b l.b;
}
