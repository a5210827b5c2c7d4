use Rattle.std.proofs.Common.{◌≡◌, ◌<◌, ◌-◌, sym, ap, ◌∙◌, length, arith}
use Rattle.std.proofs.lemmas.List.{length-map}
use Rattle.pdl_form.specs.FormView.{form}
use Rattle.pdl_form.specs.View.{mem_view}
use Rattle.pdl_net.specs.Meaning.{signal}
use Rattle.pdl_net.proofs.Keeps.{extends_keeps, extends_trans}
use Rattle.pdl_law_sides.specs.Readings.{reading}
use Rattle.pdl_law_sides.specs.Sides.{memory_answer}
use Rattle.pdl_pipe_answers.specs.Ports.{answers_in}
use Rattle.pdl_pipe_answers.proofs.PortAnswers.{answer_more, memory_same}
use Rattle.pdl_pipe_answers.proofs.answers.with_answers.Goals as goal

pub loop-i-preserved : goal.loop-i-preserved
loop-i-preserved c =
    let a = c.args.b.now in
    let b = c.loop-i.b in
    let d = c.memory_answer.new.b in
    let p = (form c.args.pipe.now).pipe in
    let n = length p.mems in
    let i = c.loop-i.i in
    let count : length c.mems-count.result.now ≡ n = sym (length-map c.mems-count.result.now mem_view) ∙ ap length c.mems-count.ensures.mems in
    let test = c.loop-i-test.true in
    let low : i < n = omega (arith, test, count) in
    let f = answers_in a c.args.ports.now in
    let kept = signal a c.args.kept in
    let e = extends_keeps a b c.loop-i.invariant.0 in
    let m = length c.mems-count.result.now - 1 - i in
    let means = c.in_ok-net.ensures.means in (
      extends_trans a b d c.loop-i.invariant.0 c.memory_answer.ensures.extends,
      c.memory_answer.ensures.regs ∙ c.loop-i.invariant.1,
      c.in_ok-net.ensures.wide ∙ c.loop-i.invariant.2,
      record {
        there = means.there;
        same = means.same
            ∙ memory_same a b e p c.args.ports.now c.args.k c.args.x m (signal b c.loop-i.net) c.requires.ports
            ∙ ap (memory_answer p f c.args.k c.args.x m (reading p m)) c.loop-i.invariant.3.same
            ∙ answer_more p f c.args.k c.args.x n i m kept low (ap (λ j. j - 1 - i) count);
      },
    )
