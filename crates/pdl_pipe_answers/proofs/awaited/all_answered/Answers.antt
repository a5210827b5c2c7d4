use Rattle.std.proofs.Common.{◌≡◌, ◌-◌, ◌<◌, length, sym, ap, ◌∙◌, arith}
use Rattle.std.proofs.lemmas.List.{length-map}
use Rattle.pdl_form.specs.FormView.{form}
use Rattle.pdl_form.specs.View.{mem_view}
use Rattle.pdl_net.specs.Meaning.{signal}
use Rattle.pdl_net.specs.Signal.{Signal}
use Rattle.pdl_net.proofs.Keeps.{extends_keeps, extends_trans}
use Rattle.pdl_law_sides.specs.Walk.{is_on}
use Rattle.pdl_law_sides.specs.Readings.{reading}
use Rattle.pdl_law_sides.specs.Sides.{memory_answered, all_answered}
use Rattle.pdl_pipe_answers.specs.Ports.{answers_in}
use Rattle.pdl_pipe_answers.proofs.Bits.{both_as, memory_answered_same, answered_more}
use Rattle.pdl_pipe_answers.proofs.awaited.all_answered.Goals as goal

pub loop-i-preserved : goal.loop-i-preserved
loop-i-preserved c =
    let a = c.args.b.now in
    let b = c.loop-i.b in
    let m0 = c.memory_done.new.b in
    let d = c.both_bits.new.b in
    let p = (form c.args.pipe.now).pipe in
    let n = length p.mems in
    let i = c.loop-i.i in
    let k = c.args.k in
    let ports = c.args.ports.now in
    let count : length c.mems-count.result.now ≡ n = sym (length-map c.mems-count.result.now mem_view) ∙ ap length c.mems-count.ensures.mems in
    let test = c.loop-i-test.true in
    let low : i < n = omega (arith, test, count) in
    let f = answers_in a ports in
    let e = extends_keeps a b c.loop-i.invariant.0 in
    let m = length c.mems-count.result.now - 1 - i in
    let done = c.in_ok-done.ensures.on in
    let net = c.in_ok-net.ensures.on in
    let old = c.memory_done.ensures.extends.kept c.loop-i.net c.loop-i.invariant.2.bit.there in (
      extends_trans a b d c.loop-i.invariant.0 (extends_trans b m0 d c.memory_done.ensures.extends c.both_bits.ensures.extends),
      c.both_bits.ensures.regs ∙ c.memory_done.ensures.regs ∙ c.loop-i.invariant.1,
      record {
        bit = net.bit;
        on = λ s.
            net.on s
            ∙ both_as (signal m0 c.in_ok-done.done) (signal m0 c.loop-i.net) (memory_answered p f k m (reading p m)) (all_answered p f k i (n - i))
            (λ z. done.on z ∙ ap (λ (g : Signal). is_on g z) (memory_answered_same a b e p ports k m c.requires.ports))
            (λ z. ap (λ (g : Signal). is_on g z) old ∙ c.loop-i.invariant.2.on z) s
            ∙ ap (λ (g : Signal). is_on g s) (answered_more p f k n i m low (ap (λ j. j - 1 - i) count));
      },
    )
