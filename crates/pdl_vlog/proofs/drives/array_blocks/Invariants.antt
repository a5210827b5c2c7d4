use Rattle.std.proofs.Common.{◌≡◌, ◌++◌, take, flat_map}
use Rattle.pdl_vlog.specs.Layout as spec
use Rattle.pdl_vlog.proofs.drives.array_blocks.Given as goal

abbrev pub invariant-loop-array : goal.invariant-loop-array
invariant-loop-array l = l.text ≡ l.fn.text ++ flat_map (spec.block_of l.inputs) (take l.array-index l.arrays)
