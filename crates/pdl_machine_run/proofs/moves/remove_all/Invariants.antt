use Rattle.std.proofs.Common.{◌≡◌, ◌≤◌, ◌<◌, ℕ, get_or}
use Rattle.pdl_machine_run.specs.View.{thread_in}
use Rattle.pdl_machine_run.specs.Ready.{AreStages}
use Rattle.pdl_form.specs.Form.{Form}
use Rattle.pdl_semantics.specs.Cycle as stated
use Rattle.pdl_machine_run.specs.declared.stage.Stage as r_stage
use Rattle.pdl_machine_run.proofs.moves.remove_all.Given as goal

-- who is removed of those so far stands there no more, the others are as they were
abbrev pub invariant-loop-k : goal.invariant-loop-k
invariant-loop-k l =
    record {
      done : (q : ℕ) (d : r_stage.Stage) → q < l.k
          → thread_in (get_or l.stages q d).slot ≡ stated.if_kept l.squasher (thread_in (get_or l.initial.stages q d).slot);
      left : (q : ℕ) (d : r_stage.Stage) → l.k ≤ q → get_or l.stages q d ≡ get_or l.initial.stages q d;
      wide : (f : Form) → AreStages f l.initial.stages → AreStages f l.stages;
    }
