use Rattle.std.proofs.Common.{◌≡◌, ◌≤◌, drop, length}
use Rattle.pdl_machine_run.specs.Acts.{acts_of}
use Rattle.pdl_semantics.specs.Cycle as stated
use Rattle.pdl_machine_run.proofs.step.releases.Given as goal

-- the releases of the stages from this one on are counted
abbrev pub invariant-loop-k : goal.invariant-loop-k
invariant-loop-k l =
    record {
      small : l.k ≤ length l.stages;
      done : l.count ≡ stated.all_releases l.m (acts_of l.k (drop l.k l.stages));
    }

abbrev pub decreases-loop-k : goal.decreases-loop-k
decreases-loop-k l = l.k
