use Rattle.std.proofs.Common.{◌≡◌, drop}
use Rattle.std.specs.List.{list_all}
use Rattle.pdl_vread_pipe.specs.Tests as spec
use Rattle.pdl_vread_pipe.proofs.memories.are_kept.Given as goal

abbrev pub invariant-loop-mem : goal.invariant-loop-mem
invariant-loop-mem l =
    list_all (spec.is_kept l.shape.delayed l.arrays) (drop l.mem-index l.shape.locked) ≡ list_all (spec.is_kept l.shape.delayed l.arrays) l.shape.locked
