use Rattle.std.proofs.Common.{◌≡◌, take}
use Rattle.pdl_vread.specs.Built as spec
use Rattle.pdl_vread.proofs.build.regs.Given as goal

abbrev pub invariant-loop-drive : goal.invariant-loop-drive
invariant-loop-drive l = l.regs.items ≡ spec.regs (take l.drive-index l.drives) 0 l.decls
