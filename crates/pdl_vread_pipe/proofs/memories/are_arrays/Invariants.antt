use Rattle.std.proofs.Common.{◌≡◌, drop}
use Rattle.std.specs.List.{list_all}
use Rattle.pdl_vread_pipe.specs.Tests as spec
use Rattle.pdl_vread_pipe.proofs.memories.are_arrays.Given as goal

abbrev pub invariant-loop-array : goal.invariant-loop-array
invariant-loop-array l =
    list_all (spec.is_array l.shape.delayed l.shape.locked) (drop l.array-index l.arrays) ≡ list_all (spec.is_array l.shape.delayed l.shape.locked) l.arrays
