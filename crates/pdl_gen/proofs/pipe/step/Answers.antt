use Rattle.std.proofs.Common.{sym, ap, ◌∙◌, ◌/◌, ◌%◌}
use Rattle.pdl_gen.specs.Generated.{next, byte}
use Rattle.pdl_gen.proofs.Numbering.{first_number, odd_kept, even_raised}
use Rattle.pdl_gen.proofs.pipe.step.Goals as goal

pub returns-then-y-eq1-clause-value : goal.returns-then-y-eq1-clause-value
returns-then-y-eq1-clause-value c =
    odd_kept c.byte_of-y.result (byte c.args.n 1)
    (c.byte_of-y.ensures ∙ ap (λ x. x / 65536 % 256) (c.next.ensures.value ∙ ap next c.from.ensures ∙ sym (first_number c.args.n))) c.if-y-eq1.true

pub returns-else-y-eq1-clause-value : goal.returns-else-y-eq1-clause-value
returns-else-y-eq1-clause-value c =
    even_raised c.byte_of-y.result (byte c.args.n 1)
    (c.byte_of-y.ensures ∙ ap (λ x. x / 65536 % 256) (c.next.ensures.value ∙ ap next c.from.ensures ∙ sym (first_number c.args.n))) c.if-y-eq1.false
