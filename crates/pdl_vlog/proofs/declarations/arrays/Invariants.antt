use Rattle.std.proofs.Common.{◌≡◌, ◌++◌, take, flat_map}
use Rattle.pdl_vlog.specs.Layout as spec
use Rattle.pdl_vlog.proofs.declarations.arrays.Given as goal

abbrev pub invariant-loop-one : goal.invariant-loop-one
invariant-loop-one l = l.text ≡ l.fn.text ++ flat_map spec.array_line (take l.one-index l.arrays)
