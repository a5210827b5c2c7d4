use Rattle.std.proofs.Common.{◌≡◌, ◌<◌, [], ℕ, length}
use Rattle.std.specs.Prelude.{slice_index_or}
use Rattle.pdl_form.specs.FormView.{form}
use Rattle.pdl_machine_run.specs.StageDeeds.{memory_at}
use Rattle.pdl_machine_run.specs.Running.{IsFirst}
use Rattle.pdl_semantics.specs.Stages.{mem_at}
use Rattle.pdl_machine_run.proofs.setup.memories.Given as goal

-- those so far are made
abbrev pub invariant-loop-m : goal.invariant-loop-m
invariant-loop-m l =
    record {
      count : length l.memories.items ≡ l.m;
      each : (k : ℕ) → k < l.m → IsFirst (mem_at (form l.pipe).pipe k).lock (slice_index_or l.image k []) (memory_at l.memories.items k);
    }
