use Rattle.std.proofs.Common.{◌≡◌, length, drop}
use Rattle.pdl_vread_rules.specs.RuleQuestions.{first_wrong}
use Rattle.pdl_vread_rules.specs.Widths as spec
use Rattle.pdl_vread_rules.proofs.widths.blocks.Given as goal

abbrev pub invariant-loop-decl : goal.invariant-loop-decl
invariant-loop-decl l =
    first_wrong (spec.asked_writes l.widths (drop (length l.yielded) l.decls) (drop (length l.yielded) l.blocks))
    ≡ first_wrong (spec.asked_writes l.widths l.decls l.blocks)
