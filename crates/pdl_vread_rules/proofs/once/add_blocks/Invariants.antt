use Rattle.std.proofs.Common.{◌≡◌, [], length, drop}
use Rattle.pdl_vread_rules.specs.RuleQuestions.{first_wrong}
use Rattle.pdl_vread_rules.specs.Once.{blocks_once}
use Rattle.pdl_vread_rules.proofs.once.add_blocks.Given as goal

abbrev pub invariant-loop-decl : goal.invariant-loop-decl
invariant-loop-decl l =
    first_wrong (blocks_once l.owners.keys (drop (length l.yielded) l.decls) (drop (length l.yielded) l.blocks)) ≡ first_wrong (blocks_once [] l.decls l.blocks)
