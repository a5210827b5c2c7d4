use Rattle.std.proofs.Common.{◌≡◌, ◌<◌, ◌-◌, ◌+◌, ◌||◌, sym, ap, ◌∙◌, length, arith}
use Rattle.std.proofs.lemmas.List.{length-map}
use Rattle.pdl_form.specs.FormView.{form}
use Rattle.pdl_form.specs.View.{mem_view}
use Rattle.pdl_pipe_answers.specs.Readings.{gets_some}
use Rattle.pdl_pipe_answers.proofs.PortAnswers.{gets_more}
use Rattle.pdl_pipe_answers.proofs.readings.gets_answer.Goals as goal

pub loop-m-preserved : goal.loop-m-preserved
loop-m-preserved c =
    let p = (form c.args.pipe.now).pipe in
    let n = length p.mems in
    let count : length c.mems-m-end.result.now ≡ n = sym (length-map c.mems-m-end.result.now mem_view) ∙ ap length c.mems-m-end.ensures.mems in
    let test = c.loop-m-test.true in
    let low : c.loop-m.m < n = omega (arith, test, count) in
    sym
    (gets_more p c.args.stage c.args.x n c.loop-m.m low
    ∙ ap (λ b. b || gets_some p c.args.stage c.args.x (n - (c.loop-m.m + 1)) (c.loop-m.m + 1)) (sym c.gets_from.ensures ∙ c.if-gets_from.false))
    ∙ c.loop-m.invariant
