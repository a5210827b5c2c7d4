use Rattle.std.proofs.Common.{◌≡◌, ◌≤◌, ◌<◌, ℕ, get_or}
use Rattle.pdl_form.specs.FormView.{form}
use Rattle.pdl_machine_run.specs.View.{thread_in}
use Rattle.pdl_machine_run.specs.Acts.{IsCarried}
use Rattle.pdl_machine_run.specs.Ready.{AreStages}
use Rattle.pdl_machine_run.specs.declared.stage.Stage as r_stage
use Rattle.pdl_machine_run.proofs.carry.carry_out_all.Given as goal

-- the threads of the stages so far have acted, the others are as they were
abbrev pub invariant-loop-k : goal.invariant-loop-k
invariant-loop-k l =
    record {
      done : (i : ℕ) (d : r_stage.Stage) → i < l.k
          → IsCarried (form l.pipe) l.beside l.replies i (thread_in (get_or l.initial.stages i d).slot) (get_or l.stages i d);
      left : (i : ℕ) (d : r_stage.Stage) → l.k ≤ i → get_or l.stages i d ≡ get_or l.initial.stages i d;
      wide : AreStages (form l.pipe) l.stages;
    }
