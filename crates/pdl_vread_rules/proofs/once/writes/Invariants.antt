use Rattle.std.proofs.Common.{◌≡◌, length, drop}
use Rattle.pdl_vread_rules.specs.RuleQuestions.{first_wrong, both}
use Rattle.pdl_vread_rules.specs.Once as spec
use Rattle.pdl_vread_rules.proofs.once.writes.Given as goal

abbrev pub invariant-loop-decl : goal.invariant-loop-decl
invariant-loop-decl l =
    first_wrong (both (spec.write_once l.array) (drop (length l.yielded) l.decls) (drop (length l.yielded) l.writes))
    ≡ first_wrong (both (spec.write_once l.array) l.decls l.writes)
