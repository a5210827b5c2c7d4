use Rattle.std.proofs.Common.{refl, subst, Err}
use Rattle.pdl_vread_text.specs.Tokens.{tokens}
use Rattle.pdl_vread_text.specs.Read.{TakesRules}
use Rattle.pdl_vread_text.proofs.Place.{next_after, none_after, stopped_there}
use Rattle.pdl_vread_text.proofs.read.verdict.Goals as goal

pub returns-in-Some : goal.returns-in-Some
returns-in-Some c =
    λ d h. next_after c.args.source.now _ _ c.in-Some.token d refl
    (subst (TakesRules (tokens c.args.source.now) c.args.tokens.now d) c.in-Ok.is h) c.in-Some.ensures

pub returns-in-None : goal.returns-in-None
returns-in-None c =
    λ d h. none_after c.args.source.now _ _ d refl (subst (TakesRules (tokens c.args.source.now) c.args.tokens.now d) c.in-Ok.is h) c.in-None.ensures

pub returns-in-Misplaced : goal.returns-in-Misplaced
returns-in-Misplaced c = λ d h.
    let k = subst (TakesRules (tokens c.args.source.now) c.args.tokens.now d) c.in-Err.is h in
    stopped_there c.args.source.now _ _ _ refl
    (subst (λ e. TakesRules (tokens c.args.source.now) c.args.tokens.now d (Err e)) c.in-Misplaced.is k) c.line_of.ensures
