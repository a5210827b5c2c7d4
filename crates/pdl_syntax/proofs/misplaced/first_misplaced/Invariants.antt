use Rattle.std.proofs.Common.{◌≡◌, length}
use Rattle.pdl_syntax_cursor.specs.Limits.{at_start}
use Rattle.pdl_syntax_cursor.specs.MarkedTokens.{marked_row}
use Rattle.pdl_syntax_grammar.specs.Automaton.{run, whole}
use Rattle.pdl_syntax_tokens.specs.Tokens.{tokens}
use Rattle.pdl_syntax.proofs.misplaced.first_misplaced.Given as goal

-- the automaton goes on from here as it does from the beginning
abbrev pub invariant-loop-kind : goal.invariant-loop-kind
invariant-loop-kind l = run l.tokens l.expected ≡ run (marked_row at_start (tokens l.source)) whole

abbrev pub decreases-loop-kind : goal.decreases-loop-kind
decreases-loop-kind l = length l.tokens
