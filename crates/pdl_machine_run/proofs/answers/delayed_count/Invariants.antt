use Rattle.std.proofs.Common.{◌≡◌, ◌≤◌, ◌+◌, drop}
use Rattle.std.specs.Prelude.{count_by}
use Rattle.pdl_form.specs.View.{mems_view}
use Rattle.pdl_semantics.specs.Flat as flat
use Rattle.pdl_machine_run.proofs.answers.delayed_count.Given as goal

-- those so far are counted
abbrev pub invariant-loop-mem : goal.invariant-loop-mem
invariant-loop-mem l =
    record {
      counted : l.count + count_by (λ (x : flat.Mem). flat.is_delayed x.kind) (mems_view (drop l.mem-index l.mems))
          ≡ count_by (λ (x : flat.Mem). flat.is_delayed x.kind) (mems_view l.mems);
      most : l.count ≤ l.mem-index;
    }
