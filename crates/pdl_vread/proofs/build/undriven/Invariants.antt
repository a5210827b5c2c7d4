use Rattle.std.proofs.Common.{◌≡◌, map, take}
use Rattle.pdl_vread.specs.Built as spec
use Rattle.pdl_vread.proofs.build.undriven.Given as goal

abbrev pub invariant-loop-decl : goal.invariant-loop-decl
invariant-loop-decl l = l.regs.items ≡ map spec.undriven (take l.decl-index l.decls)
