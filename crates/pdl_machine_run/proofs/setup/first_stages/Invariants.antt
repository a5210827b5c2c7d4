use Rattle.std.proofs.Common.{◌≡◌, ◌≤◌, ◌-◌}
use Rattle.std.specs.Prelude.{vec_len}
use Rattle.pdl_form.specs.FormView.{form}
use Rattle.pdl_machine_run.specs.View.{seats}
use Rattle.pdl_machine_run.specs.Ready.{AreStages}
use Rattle.pdl_machine_run.specs.Firsts.{seats_first}
use Rattle.pdl_machine_run.proofs.setup.first_stages.Given as goal

-- those after the first are empty so far
abbrev pub invariant-loop-alloc : goal.invariant-loop-alloc
invariant-loop-alloc l =
    record {
      few : vec_len l.stages ≤ l.count;
      some : 1 ≤ vec_len l.stages;
      stand : seats l.stages.items ≡ seats_first (form l.pipe).pipe (vec_len l.stages);
      wide : AreStages (form l.pipe) l.stages.items;
    }

abbrev pub decreases-loop-alloc : goal.decreases-loop-alloc
decreases-loop-alloc l = l.count - vec_len l.stages
