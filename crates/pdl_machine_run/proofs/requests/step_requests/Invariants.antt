use Rattle.std.proofs.Common.{◌≡◌, ◌++◌, map, take, drop}
use Rattle.pdl_form.specs.FormView.{form}
use Rattle.pdl_machine_run.specs.View.{request_view}
use Rattle.pdl_machine_run.specs.Acts.{acts_of}
use Rattle.pdl_machine_run.specs.Requests.{requests_after}
use Rattle.pdl_machine_run.proofs.requests.step_requests.Given as goal

-- the requests so far have stepped, the others are as they were
abbrev pub invariant-loop-m : goal.invariant-loop-m
invariant-loop-m l =
    record {
      done : map request_view (take l.m l.requests)
          ++ requests_after (form l.pipe).pipe l.replies (acts_of 0 l.stages) l.squasher l.m (map request_view (drop l.m l.initial.requests))
          ≡ requests_after (form l.pipe).pipe l.replies (acts_of 0 l.stages) l.squasher 0 (map request_view l.initial.requests);
      left : drop l.m l.requests ≡ drop l.m l.initial.requests;
    }
