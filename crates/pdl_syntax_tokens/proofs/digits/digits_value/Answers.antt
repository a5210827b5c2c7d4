use Rattle.std.proofs.Common.{arith, ◌∙◌}
use Rattle.pdl_syntax_tokens.proofs.Values.{digits_step}
use Rattle.pdl_syntax_tokens.proofs.digits.digits_value.Goals as goal

pub loop-c-preserved : goal.loop-c-preserved
loop-c-preserved c =
    c.with_digit-value.ensures ∙ digits_step c.args.base c.loop-c.c-index c.args.digits.now c.loop-c.value c.requires (omega arith) c.loop-c.invariant
