use Rattle.std.proofs.Common.{◌==◌, length, sym, ap, ◌∙◌, arith}
use Rattle.pdl_form.specs.View.{next_view}
use Rattle.pdl_net.specs.Meaning.{signal}
use Rattle.pdl_net.specs.Signal.{Signal}
use Rattle.pdl_net.proofs.Keeps.{extends_keeps}
use Rattle.pdl_law_sides.specs.Walk.{one, is_on}
use Rattle.pdl_port.specs.Laws.{AnswerSignals, answer_signals}
use Rattle.pdl_law_sides.specs.Readings.{places_of}
use Rattle.pdl_law_sides.specs.Sides.{place_answered}
use Rattle.pdl_pipe_answers.specs.Ports.{answered_where}
use Rattle.pdl_pipe_answers.proofs.PortAnswers.{at_place}
use Rattle.pdl_pipe_answers.proofs.Bits.{where_as}
use Rattle.pdl_pipe_answers.proofs.awaited.places_done.Goals as goal

pub returns-in_ok-done-in-Forks-clause-on : goal.returns-in_ok-done-in-Forks-clause-on
returns-in_ok-done-in-Forks-clause-on c =
    let a = c.args.b.now in
    let b = c.place_or-in-Forks.new.b in
    let r = c.args.port.now in
    let k = c.args.k in
    let first = c.in-Forks.first in
    let second = c.in-Forks.second in
    let e = extends_keeps a b c.place_or-in-Forks.ensures.extends in
    let long = c.requires.places ∙ ap (λ n. length (places_of (next_view n))) c.in-Forks.is in
    let wide = c.requires.width in
    let place = at_place a b e wide.0 r 0 (omega (arith, long)) wide.1 in
    let later = c.in_ok-later-in-Forks.ensures.on in
    let done = c.in_ok-done-in-Forks.ensures.on in
    let rest = answered_where (second == k) (answer_signals a r 1) one in
    record {
      bit = done.bit;
      on = λ s.
          done.on s
          ∙ ap (λ (y : AnswerSignals). is_on (answered_where (first == k) y (signal b c.in_ok-later-in-Forks.later)) s) place
          ∙ where_as (first == k) (answer_signals a r 0) (signal b c.in_ok-later-in-Forks.later) rest
          (λ z. later.on z ∙ ap (λ (g : Signal). is_on (answered_where (second == k) (answer_signals a r 1) g) z) c.requires.bits.one.same) s
          ∙ ap (λ n. is_on (place_answered (answer_signals a r) k (places_of (next_view n)) 0) s) (sym c.in-Forks.is);
    }
