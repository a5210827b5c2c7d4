use Rattle.std.proofs.Common.{◌≡◌, ◌≤◌, drop, length}
use Rattle.pdl_machine_run.specs.Acts.{acts_of}
use Rattle.pdl_semantics.specs.Cycle as stated
use Rattle.pdl_machine_run.proofs.step.write_all.Given as goal

-- the stages from this one on have made their writes
abbrev pub invariant-loop-k : goal.invariant-loop-k
invariant-loop-k l =
    record {
      small : l.k ≤ length l.stages;
      done : l.memory ≡ record l.initial.memory { pending = stated.with_all_writes l.m (acts_of l.k (drop l.k l.stages)) l.initial.memory.pending };
    }

abbrev pub decreases-loop-k : goal.decreases-loop-k
decreases-loop-k l = l.k
