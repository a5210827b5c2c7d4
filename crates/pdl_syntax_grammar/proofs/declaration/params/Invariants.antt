use Rattle.std.proofs.Common.{◌≡◌, ◌-◌, map}
use Rattle.pdl_syntax_tokens.specs.declared.token.Mark.TheVariants as mark
use Rattle.pdl_syntax_grammar.specs.Read.{after}
use Rattle.pdl_syntax_grammar.specs.Reading as spec
use Rattle.pdl_syntax_tree.specs.View.{param_view}
use Rattle.pdl_syntax_grammar.proofs.declaration.params.Given as goal

-- what is read and what is to come are the whole
abbrev pub invariant-loop-turn : goal.invariant-loop-turn
invariant-loop-turn l =
    after (map param_view l.done) (spec.list_of spec.param mark.CloseRound (l.room - l._turn) l.tokens)
    ≡ spec.list_of spec.param mark.CloseRound l.room l.fn.tokens
