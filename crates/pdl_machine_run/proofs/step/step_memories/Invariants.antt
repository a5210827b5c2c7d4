use Rattle.std.proofs.Common.{◌≡◌, ◌≤◌, ◌+◌, ◌-◌, ◌*◌, ◌++◌, take, drop, length}
use Rattle.std.specs.Prelude.{vec_len, vec_capacity}
use Rattle.pdl_machine_run.specs.Acts.{acts_of, memories_after, commits_shown}
use Rattle.pdl_machine_run.specs.Ready.{AllCanStep}
use Rattle.pdl_machine_run.proofs.step.step_memories.Given as goal

-- the memories so far have stepped, the others are as they were
abbrev pub invariant-loop-m : goal.invariant-loop-m
invariant-loop-m l =
    record {
      done : take l.m l.memories ++ memories_after l.m (acts_of 0 l.stages) l.squasher (drop l.m l.initial.memories)
          ≡ memories_after 0 (acts_of 0 l.stages) l.squasher l.initial.memories;
      left : drop l.m l.memories ≡ drop l.m l.initial.memories;
      steps : AllCanStep l.m (acts_of 0 l.stages) (drop l.m l.initial.memories);
      shown : l.shown.items ++ commits_shown (drop l.m l.twice) l.m (acts_of 0 l.stages) (drop l.m l.initial.memories)
          ≡ l.initial.shown.items ++ commits_shown l.twice 0 (acts_of 0 l.stages) l.initial.memories;
      room : vec_len l.shown + 6 * (length l.memories - l.m) ≤ vec_capacity l.shown;
      capacity : vec_capacity l.shown ≡ vec_capacity l.initial.shown;
    }
