use Rattle.std.proofs.Common.{◌≤◌, take, All}
use Rattle.pdl_netrun.proofs.widths.have_narrow_arrays.Given as goal

abbrev pub invariant-loop-array : goal.invariant-loop-array
invariant-loop-array l = All (λ p. p.width ≤ 64) (take l.array-index l.arrays)
