use Rattle.std.proofs.Common.{◌≡◌, ◌≤◌, None, drop, length}
use Rattle.pdl_machine_run.specs.Acts.{acts_of}
use Rattle.pdl_machine_run.specs.Requests.{address_by}
use Rattle.pdl_machine_run.proofs.requests.address_asked.Given as goal

-- the stages from this one on have asked
abbrev pub invariant-loop-k : goal.invariant-loop-k
invariant-loop-k l =
    record {
      small : l.k ≤ length l.stages;
      done : l.address ≡ address_by l.m (acts_of l.k (drop l.k l.stages)) None;
    }

abbrev pub decreases-loop-k : goal.decreases-loop-k
decreases-loop-k l = l.k
