use Rattle.std.proofs.Common.{◌≡◌, ◌≤◌, map, drop, length}
use Rattle.pdl_form.specs.FormView.{form}
use Rattle.pdl_machine_run.specs.Acts.{AreDecided}
use Rattle.pdl_machine_run.specs.declared.stage.Stage as r_stage
use Rattle.pdl_machine_run.proofs.decide.decide.Given as goal

-- those from this stage on are decided
abbrev pub invariant-loop-k : goal.invariant-loop-k
invariant-loop-k l =
    record {
      small : l.k ≤ length l.stages;
      count : length l.stages ≡ length l.initial.stages;
      done : AreDecided (form l.pipe).pipe l.beside l.replies l.k (drop l.k l.stages);
      slots : map (λ (x : r_stage.Stage). x.slot) l.stages ≡ map (λ (x : r_stage.Stage). x.slot) l.initial.stages;
      deeds : map (λ (x : r_stage.Stage). x.deeds) l.stages ≡ map (λ (x : r_stage.Stage). x.deeds) l.initial.stages;
    }

abbrev pub decreases-loop-k : goal.decreases-loop-k
decreases-loop-k l = l.k
