use Rattle.std.proofs.Common.{◌≡◌, ◌≤◌, drop, length}
use Rattle.pdl_machine_run.specs.Acts.{acts_of}
use Rattle.pdl_machine_run.specs.Advice.{after_all_writes}
use Rattle.pdl_machine_run.proofs.advice.make_all_writes.Given as goal

-- the stages from this one on have made their writes
abbrev pub invariant-loop-k : goal.invariant-loop-k
invariant-loop-k l =
    record {
      small : l.k ≤ length l.stages;
      done : l.memories ≡ after_all_writes (acts_of l.k (drop l.k l.stages)) l.initial.memories;
    }

abbrev pub decreases-loop-k : goal.decreases-loop-k
decreases-loop-k l = l.k
