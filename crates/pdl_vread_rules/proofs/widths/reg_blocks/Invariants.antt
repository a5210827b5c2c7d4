use Rattle.std.proofs.Common.{◌≡◌, length, drop}
use Rattle.pdl_vread_rules.specs.RuleQuestions.{first_wrong, both}
use Rattle.pdl_vread_rules.specs.Widths as spec
use Rattle.pdl_vread_rules.proofs.widths.reg_blocks.Given as goal

abbrev pub invariant-loop-decl : goal.invariant-loop-decl
invariant-loop-decl l =
    first_wrong (both (spec.asked_block l.widths) (drop (length l.yielded) l.decls) (drop (length l.yielded) l.drives))
    ≡ first_wrong (both (spec.asked_block l.widths) l.decls l.drives)
