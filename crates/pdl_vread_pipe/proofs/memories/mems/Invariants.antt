use Rattle.std.proofs.Common.{◌≡◌, ◌++◌, map, take}
use Rattle.pdl_net.specs.Pipe.{delayed_info, comb_info}
use Rattle.pdl_vread_pipe.specs.Tests as spec
use Rattle.pdl_vread_pipe.proofs.memories.mems.Given as goal

abbrev pub invariant-loop-array : goal.invariant-loop-array
invariant-loop-array l =
    l.infos ≡ map delayed_info l.shape.delayed ++ map (λ a. comb_info a (spec.find_named a.name l.shape.locked)) (take l.array-index l.arrays)
