use Rattle.std.proofs.Common.{sym}
use Rattle.std.proofs.lemmas.Bool.{lt-ltb, le-ltb, cond-true, cond-false}
use Rattle.pdl_wave.specs.Dump.{code}
use Rattle.pdl_wave.proofs.lines.code.Goals as goal

pub returns-then-i-lt94-clause-text : goal.returns-then-i-lt94-clause-text
unfolding code
returns-then-i-lt94-clause-text c = sym (cond-true _ _ _ (lt-ltb _ _ c.if-i-lt94.true))

pub returns-else-i-lt94-clause-text : goal.returns-else-i-lt94-clause-text
unfolding code
returns-else-i-lt94-clause-text c = sym (cond-false _ _ _ (le-ltb _ _ c.if-i-lt94.false))
