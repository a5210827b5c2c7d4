use Rattle.std.proofs.Common.{sym, ◌∙◌}
use Rattle.pdl_asm.proofs.Blanks.{trim_more, trim_whole}
use Rattle.pdl_asm.proofs.text.trim_end.Goals as goal

pub loop-rest-preserved : goal.loop-rest-preserved
loop-rest-preserved c = trim_more c.loop-rest.rest.now _ c.in-len1-up.len_at_least (sym c.is_blank.ensures ∙ c.if-not-is_blank.false) ∙ c.loop-rest.invariant

pub returns-then-not-is_blank : goal.returns-then-not-is_blank
returns-then-not-is_blank c =
    trim_whole c.loop-rest.rest.now _ c.in-len1-up.len_at_least (sym c.is_blank.ensures ∙ c.if-not-is_blank.true) ∙ c.loop-rest.invariant
