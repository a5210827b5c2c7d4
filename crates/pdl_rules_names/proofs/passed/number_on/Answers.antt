use Rattle.std.proofs.Common.{sym, ap, ◌∙◌, if◌then◌else◌, arith}
use Rattle.pdl_rules_names.proofs.passed.number_on.Goals as goal

pub overflow_cast-path : goal.overflow_cast-path
overflow_cast-path c = omega (arith, c.requires)

pub returns-then-is_on : goal.returns-then-is_on
returns-then-is_on c gs masked distinct few l =
    sym (ap (λ b. if b then c.args.k else c.args.old) (sym (c.is_on.ensures gs masked distinct few l) ∙ c.if-is_on.true))

pub returns-else-is_on : goal.returns-else-is_on
returns-else-is_on c gs masked distinct few l =
    sym (ap (λ b. if b then c.args.k else c.args.old) (sym (c.is_on.ensures gs masked distinct few l) ∙ c.if-is_on.false))
