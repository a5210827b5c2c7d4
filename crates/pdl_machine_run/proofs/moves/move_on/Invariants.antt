use Rattle.std.proofs.Common.{◌≡◌, ◌≤◌, ◌<◌, ℕ, drop, length, get_or}
use Rattle.pdl_form.specs.FormView.{form}
use Rattle.pdl_machine_run.specs.View.{thread_in}
use Rattle.pdl_machine_run.specs.Acts.{all_of}
use Rattle.pdl_machine_run.specs.Ready.{AreStages}
use Rattle.pdl_form.specs.Form.{Form}
use Rattle.pdl_semantics.specs.Cycle as stated
use Rattle.pdl_machine_run.specs.declared.stage.Stage as r_stage
use Rattle.pdl_machine_run.proofs.moves.move_on.Given as goal

-- who comes into the stages from this one on, or stays there, stands there
abbrev pub invariant-loop-k : goal.invariant-loop-k
invariant-loop-k l =
    record {
      small : l.k ≤ length l.stages;
      count : length l.stages ≡ length l.initial.stages;
      done : (q : ℕ) (d : r_stage.Stage) → l.k ≤ q → q < length l.stages
          → thread_in (get_or l.stages q d).slot ≡ stated.next_thread (form l.pipe).pipe q (all_of l.k (drop l.k l.initial.stages));
      left : (q : ℕ) (d : r_stage.Stage) → q < l.k → get_or l.stages q d ≡ get_or l.initial.stages q d;
      wide : (f : Form) → AreStages f l.initial.stages → AreStages f l.stages;
    }

abbrev pub decreases-loop-k : goal.decreases-loop-k
decreases-loop-k l = l.k
