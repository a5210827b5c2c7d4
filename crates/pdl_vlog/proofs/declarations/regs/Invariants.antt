use Rattle.std.proofs.Common.{◌≡◌, ◌++◌, drop}
use Rattle.pdl_vlog.specs.Layout as spec
use Rattle.pdl_vlog.proofs.declarations.regs.Given as goal

abbrev pub invariant-loop-r : goal.invariant-loop-r
invariant-loop-r l = l.text ++ spec.regs l.r (drop l.r l.regs) ≡ l.fn.text ++ spec.regs 0 l.regs
