use Rattle.std.proofs.Common.{◌≡◌, map, take}
use Rattle.pdl_vread_rules.specs.Widths as spec
use Rattle.pdl_vread_rules.proofs.table.reg_widths.Given as goal

abbrev pub invariant-loop-decl : goal.invariant-loop-decl
invariant-loop-decl l = l.widths ≡ map (λ d. spec.bits d.high) (take l.decl-index l.decls)
