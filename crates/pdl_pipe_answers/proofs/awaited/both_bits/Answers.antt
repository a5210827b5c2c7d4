use Rattle.std.proofs.Common.{refl, sym, ap, ◌∙◌}
use Rattle.pdl_net.specs.Meaning.{signal}
use Rattle.pdl_net.specs.Signal.{Signal}
use Rattle.pdl_law_sides.specs.Walk.{both, is_on}
use Rattle.pdl_pipe_answers.proofs.Bits.{both_one, one_both}
use Rattle.pdl_pipe_answers.proofs.awaited.both_bits.Goals as goal

pub returns-then-are_same-clause-on : goal.returns-then-are_same-clause-on
returns-then-are_same-clause-on c =
    let b = c.args.b.now in
    let is = ap (signal b) (c.if-are_same.ensures refl) ∙ c.requires.bits.one.same in
    record { bit = c.requires.x; on = λ s. both_one (signal b c.args.x) s ∙ ap (λ (f : Signal). is_on (both (signal b c.args.x) f) s) (sym is) }

pub returns-then-are_same-2-clause-on : goal.returns-then-are_same-2-clause-on
returns-then-are_same-2-clause-on c =
    let b = c.args.b.now in
    let is = ap (signal b) (c.if-are_same-2.ensures refl) ∙ c.requires.bits.one.same in
    record { bit = c.requires.y; on = λ s. one_both (signal b c.args.y) s ∙ ap (λ (f : Signal). is_on (both f (signal b c.args.y)) s) (sym is) }
