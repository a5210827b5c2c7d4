use Rattle.std.proofs.Common.{◌≡◌, sym, subst, option_map}
use Rattle.pdl_rules.specs.Refusal.{first_broken, limits}
use Rattle.pdl_rules_on_texts.specs.Refused.{refused_of}
use Rattle.pdl_rules_judge.proofs.FirstBrokenRule.{told_some}
use Rattle.pdl_rules_judge.proofs.order.ask_limits.Goals as goal

pub returns-in-Some : goal.returns-in-Some
returns-in-Some c p e =
    told_some refused_of limits p c.in-Some.broken c.refusal_at.result
    (subst (λ o. option_map refused_of o ≡ first_broken limits p) c.in-Some.is (c.in_ok-broken.ensures p e)) c.refusal_at.ensures

pub returns-in-None : goal.returns-in-None
returns-in-None c p e = sym (subst (λ o. option_map refused_of o ≡ first_broken limits p) c.in-None.is (c.in_ok-broken.ensures p e))
