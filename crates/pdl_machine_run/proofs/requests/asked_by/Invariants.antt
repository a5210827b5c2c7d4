use Rattle.std.proofs.Common.{◌≡◌, ◌≤◌, drop, length}
use Rattle.pdl_machine_run.specs.View.{request_view}
use Rattle.pdl_machine_run.specs.Acts.{acts_of}
use Rattle.pdl_semantics.specs.Cycle as stated
use Rattle.pdl_machine_run.proofs.requests.asked_by.Given as goal

-- the stages from this one on have asked
abbrev pub invariant-loop-k : goal.invariant-loop-k
invariant-loop-k l =
    record {
      small : l.k ≤ length l.stages;
      done : request_view l.request ≡ stated.asked_by l.m (acts_of l.k (drop l.k l.stages)) (request_view l.initial.request);
    }

abbrev pub decreases-loop-k : goal.decreases-loop-k
decreases-loop-k l = l.k
