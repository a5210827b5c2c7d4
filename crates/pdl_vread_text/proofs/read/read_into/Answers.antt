use Rattle.std.proofs.Common.{subst}
use Rattle.pdl_vread_text.specs.Read.{TakesRules}
use Rattle.pdl_vread_text.proofs.read.read_into.Goals as goal

pub returns : goal.returns
returns c =
    c.verdict.ensures _
    (subst
    (λ o. TakesRules o c.take_rules-taken.new.tokens c.take_rules-taken.new.draft c.take_rules-taken.result) c.new-tokens.ensures c.take_rules-taken.ensures)
