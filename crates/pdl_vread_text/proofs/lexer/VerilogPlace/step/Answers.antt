use Rattle.std.proofs.Common.{ap, ◌∷◌, ◌∙◌, sym}
use Rattle.pdl_vread_text.specs.Tokens.{tokens_from}
use Rattle.pdl_vread_text.proofs.Steps.{step_blank, step_token}
use Rattle.pdl_vread_text.proofs.lexer.VerilogPlace.step.Goals as goal

pub returns-then-piece : goal.returns-then-piece
returns-then-piece c =
    let place = c.loop-piece.place in
    let after = c.after-after in
    ap (λ t. t ∷ tokens_from 0 after.result.line after.result.rest.now) c.token.ensures
    ∙ (step_token place.rest.now after.result.rest.now c.in-Some.piece place.line after.result.line
    c.in-Some.ensures after.ensures.rest after.ensures.line c.if-piece.true
    ∙ c.loop-piece.invariant)

pub loop-piece-preserved : goal.loop-piece-preserved
loop-piece-preserved c =
    let place = c.loop-piece.place in
    let after = c.after-after in
    step_blank place.rest.now after.result.rest.now c.in-Some.piece place.line after.result.line
    c.in-Some.ensures after.ensures.rest after.ensures.line c.if-piece.false
    ∙ c.loop-piece.invariant
