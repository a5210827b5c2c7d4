use Rattle.std.proofs.Common.{◌≡◌, take}
use Rattle.pdl_vread.specs.Built as spec
use Rattle.pdl_vread.proofs.build.drivers.Given as goal

abbrev pub invariant-loop-drive : goal.invariant-loop-drive
invariant-loop-drive l = l.nets.items ≡ spec.drivers l.ports (take l.drive-index l.drives)
