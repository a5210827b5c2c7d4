use Rattle.std.proofs.Common.{◌∙◌, subst}
use Rattle.pdl_rules_judge.specs.LimitLines.{AreLines}
use Rattle.pdl_rules_judge.proofs.LowestLimit.{lowest_line}
use Rattle.pdl_rules_judge.proofs.limits.check_limits.Goals as goal

pub returns : goal.returns
returns c p e = c.lowest.ensures ∙ lowest_line p c.in_ok-lines.lines (subst (λ xs. AreLines p xs c.in_ok-lines.lines) e (c.in_ok-lines.ensures p))
