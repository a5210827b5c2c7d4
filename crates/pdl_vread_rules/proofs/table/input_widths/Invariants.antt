use Rattle.std.proofs.Common.{◌≡◌, filter_map, take}
use Rattle.pdl_vread_rules.specs.Widths as spec
use Rattle.pdl_vread_rules.proofs.table.input_widths.Given as goal

abbrev pub invariant-loop-decl : goal.invariant-loop-decl
invariant-loop-decl l = l.widths ≡ filter_map spec.input_width (take l.decl-index l.decls)
