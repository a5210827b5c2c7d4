use Rattle.std.proofs.Common.{ap, ◌∷◌, ◌∙◌}
use Rattle.pdl_syntax_tokens.specs.Tokens.{tokens_from}
use Rattle.pdl_syntax_tokens.proofs.Steps.{step_blank, step_token}
use Rattle.pdl_syntax_tokens.proofs.lexer.SourcePlace.step.Goals as goal

pub returns-in-Some-kind : goal.returns-in-Some-kind
returns-in-Some-kind c =
    let place = c.loop-piece.place in
    let after = c.after-after in
    ap (λ t. t ∷ tokens_from 0 after.result.start after.result.line after.result.rest.now) c.token.ensures
    ∙ (step_token place.rest.now after.result.rest.now c.in-Some.piece c.in-Some-kind.kind place.start place.line after.result.start after.result.line
    c.in-Some.ensures after.ensures.rest after.ensures.start after.ensures.line c.in-Some-kind.is
    ∙ c.loop-piece.invariant)

pub loop-piece-preserved : goal.loop-piece-preserved
loop-piece-preserved c =
    let place = c.loop-piece.place in
    let after = c.after-after in
    step_blank place.rest.now after.result.rest.now c.in-Some.piece place.start place.line after.result.start after.result.line
    c.in-Some.ensures after.ensures.rest after.ensures.start after.ensures.line c.in-None.is
    ∙ c.loop-piece.invariant
