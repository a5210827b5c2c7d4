use Rattle.std.proofs.Common.{sym, ◌∙◌}
use Rattle.pdl_asm.proofs.Blanks.{before_rest}
use Rattle.pdl_asm.proofs.text.without_comment.Goals as goal

pub loop-rest-preserved : goal.loop-rest-preserved
loop-rest-preserved c = before_rest _ c.loop-rest.rest.now c.in-len1-up.len_at_least (sym c.is_comment.ensures ∙ c.if-is_comment.false) c.loop-rest.invariant
