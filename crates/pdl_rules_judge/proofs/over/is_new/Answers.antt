use Rattle.std.proofs.Common.{ap₂, ◌∙◌, nat_le}
use Rattle.pdl_paths.specs.Guards.{guard_view}
use Rattle.pdl_rules_judge.proofs.GuardSteps.{is_new_number}
use Rattle.pdl_rules_judge.proofs.over.is_new.Goals as goal

pub returns : goal.returns
returns c = ap₂ (λ m n. nat_le m n) c.len.ensures c.number.ensures ∙ is_new_number (guard_view c.args.guard) c.args.guards.now
