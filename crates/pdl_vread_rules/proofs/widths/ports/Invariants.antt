use Rattle.std.proofs.Common.{◌≡◌, map, drop}
use Rattle.pdl_vread_rules.specs.RuleQuestions.{first_wrong}
use Rattle.pdl_vread_rules.specs.Widths as spec
use Rattle.pdl_vread_rules.proofs.widths.ports.Given as goal

abbrev pub invariant-loop-decl : goal.invariant-loop-decl
invariant-loop-decl l = first_wrong (map spec.asked_port (drop l.decl-index l.decls)) ≡ first_wrong (map spec.asked_port l.decls)
