use Rattle.std.proofs.Common.{[], IfOk, subst}
use Rattle.pdl_rules_names.specs.Ready.{AreLast}
use Rattle.pdl_rules_names.proofs.rules.TooEarlyTextRule.start.Goals as goal

pub returns : goal.returns
returns c = subst (λ gs. IfOk c.none_passed.result (λ last. AreLast gs [] last.items)) c.requires.0 c.none_passed.ensures
