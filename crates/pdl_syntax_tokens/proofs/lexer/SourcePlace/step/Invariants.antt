use Rattle.std.proofs.Common.{◌≡◌, length}
use Rattle.pdl_syntax_tokens.specs.Tokens.{tokens_from}
use Rattle.pdl_syntax_tokens.proofs.lexer.SourcePlace.step.Given as goal

-- only white space and comments were passed
abbrev pub invariant-loop-piece : goal.invariant-loop-piece
invariant-loop-piece l = tokens_from 0 l.place.start l.place.line l.place.rest.now ≡ tokens_from 0 l.self.start l.self.line l.self.rest.now

abbrev pub decreases-loop-piece : goal.decreases-loop-piece
decreases-loop-piece l = length l.place.rest.now
