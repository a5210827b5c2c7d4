use Rattle.std.proofs.Common.{◌≡◌, drop, bytes_eq}
use Rattle.std.specs.List.{list_any}
use Rattle.pdl_vread_pipe.proofs.memories.has_array.Given as goal

abbrev pub invariant-loop-array : goal.invariant-loop-array
invariant-loop-array l = list_any (λ a. bytes_eq a.name l.name) (drop l.array-index l.arrays) ≡ list_any (λ a. bytes_eq a.name l.name) l.arrays
