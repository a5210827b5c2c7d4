use Rattle.std.proofs.Common.{◌≡◌, ◌++◌, drop}
use Rattle.std.specs.Prelude.{vec_len, vec_capacity}
use Rattle.pdl_machine_run.proofs.deeds.copy_kept.Given as goal

-- the words so far are copied
abbrev pub invariant-loop-kept : goal.invariant-loop-kept
invariant-loop-kept l =
    record {
      copied : l.to.items ++ drop l.kept-index l.from ≡ l.from;
      count : vec_len l.to ≡ l.kept-index;
      capacity : vec_capacity l.to ≡ vec_capacity l.initial.to;
    }
