use Rattle.std.proofs.Common.{◌≡◌, ◌++◌, drop}
use Rattle.pdl_vlog.specs.Layout as spec
use Rattle.pdl_vlog.proofs.drives.blocks.Given as goal

abbrev pub invariant-loop-r : goal.invariant-loop-r
invariant-loop-r l = l.text ++ spec.blocks l.inputs l.r (drop l.r l.regs) ≡ l.fn.text ++ spec.blocks l.inputs 0 l.regs
