use Rattle.std.proofs.Common.{◌≡◌, ◌∙◌, ◌+◌, ◌-◌, ◌++◌, [], ◌∷◌, ap, arith, sym}
use Rattle.pdl_trace.proofs.BytePieces.{faulted, step_off, step_on}
use Rattle.pdl_machine_view.specs.Lines.{letters_from}
use Rattle.pdl_machine_view.proofs.Letters.{letters_step}
use Rattle.pdl_machine_view.proofs.lines.push_letters.Goals as goal

pub returns-in_err-push-clause-bytes : goal.returns-in_err-push-clause-bytes
returns-in_err-push-clause-bytes g c =
    let o = g.S.Sink.written c.args.sink.now in
    let a = g.S.Sink.written c.loop-stage.sink in
    let b = g.S.Sink.written c.push.new.sink in
    let shown = c.args.machine.now.shown in
    let stage = c.loop-stage.stage in
    let stages = c.args.stages in
    let all = c.args.out.now ++ letters_from shown 0 stages in
    let rest = letters_from shown stage (stages - stage) in
    let after = letters_from shown (stage + 1) (stages - (stage + 1)) in
    let e : rest ≡ (c.letter.result ∷ []) ++ after = letters_step shown stage stages c.loop-stage-test.true ∙ ap (λ x. x ∷ after) (sym c.letter.ensures) in
    faulted c.from_residual.result o b all c.push.new.self c.from_residual.ensures.0
    (step_off o a b all rest c.loop-stage.out (c.letter.result ∷ []) after e c.loop-stage.invariant.way c.in_err-push.ensures.bytes)

pub loop-stage-preserved : goal.loop-stage-preserved
loop-stage-preserved g c =
    let o = g.S.Sink.written c.args.sink.now in
    let a = g.S.Sink.written c.loop-stage.sink in
    let b = g.S.Sink.written c.push.new.sink in
    let shown = c.args.machine.now.shown in
    let stage = c.loop-stage.stage in
    let stages = c.args.stages in
    let all = c.args.out.now ++ letters_from shown 0 stages in
    let rest = letters_from shown stage (stages - stage) in
    let after = letters_from shown (stage + 1) (stages - (stage + 1)) in
    let e : rest ≡ (c.letter.result ∷ []) ++ after = letters_step shown stage stages c.loop-stage-test.true ∙ ap (λ x. x ∷ after) (sym c.letter.ensures) in
    record {
      way = step_on o a b all rest c.loop-stage.out (c.letter.result ∷ []) after e c.loop-stage.invariant.way c.push.new.self c.in_ok-push.ensures.bytes;
      later = omega (arith, c.loop-stage.invariant.later, c.push.ensures.cause.later);
    }
