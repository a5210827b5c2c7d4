use Rattle.std.proofs.Common.{◌≡◌, ◌≤◌, ◌+◌, ◌*◌, drop}
use Rattle.pdl_form.specs.View.{mems_view}
use Rattle.pdl_machine_run.specs.Outputs.{all_memory_count}
use Rattle.pdl_machine_run.proofs.setup.memory_outputs.Given as goal

-- the memories so far are counted
abbrev pub invariant-loop-m : goal.invariant-loop-m
invariant-loop-m l =
    record {
      counted : l.count + all_memory_count (drop l.m l.twice) (mems_view (drop l.m l.mems)) ≡ all_memory_count l.twice (mems_view l.mems);
      most : l.count ≤ 8 * l.m;
    }
