use Rattle.std.proofs.Common.{◌≡◌, ◌≤◌, ◌+◌, ◌-◌, ◌*◌, ◌++◌, drop, length}
use Rattle.std.specs.Prelude.{vec_len, vec_capacity}
use Rattle.pdl_machine_run.specs.Acts.{are_held, are_moving}
use Rattle.pdl_machine_facts.specs.Ports.{stage_values}
use Rattle.pdl_machine_run.proofs.shown.show_stages.Given as goal

-- the stages so far are shown
abbrev pub invariant-loop-stage : goal.invariant-loop-stage
invariant-loop-stage l =
    record {
      shown : l.shown.items ++ stage_values (are_held (drop l.stage-index l.stages)) (are_moving (drop l.stage-index l.stages))
          ≡ l.initial.shown.items ++ stage_values (are_held l.stages) (are_moving l.stages);
      room : vec_len l.shown + 2 * (length l.stages - l.stage-index) ≤ vec_capacity l.shown;
      capacity : vec_capacity l.shown ≡ vec_capacity l.initial.shown;
    }
