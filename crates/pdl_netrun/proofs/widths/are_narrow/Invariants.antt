use Rattle.std.proofs.Common.{◌≤◌, take, All}
use Rattle.pdl_netrun.proofs.widths.are_narrow.Given as goal

abbrev pub invariant-loop-width : goal.invariant-loop-width
invariant-loop-width l = All (λ p. p ≤ 64) (take l.width-index l.widths)
