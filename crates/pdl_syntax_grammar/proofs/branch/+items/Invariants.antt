use Rattle.std.proofs.Common.{◌≡◌, ◌+◌, ◌*◌, ◌-◌, map}
use Rattle.pdl_syntax_grammar.specs.Read.{after_stmts}
use Rattle.pdl_syntax_grammar.specs.Reading as spec
use Rattle.pdl_syntax_tree.specs.View.{stmt_view}
use Rattle.pdl_syntax_grammar.proofs.branch.+items.Given as goal

abbrev pub decreases-branch : goal.decreases-branch
decreases-branch l = 8 * l.most + 1

abbrev pub decreases-otherwise : goal.decreases-otherwise
decreases-otherwise l = 8 * l.most + 2

abbrev pub decreases-choice : goal.decreases-choice
decreases-choice l = 8 * l.most + 3

abbrev pub decreases-item : goal.decreases-item
decreases-item l = 8 * l.most + 4

abbrev pub decreases-items : goal.decreases-items
decreases-items l = 8 * l.most

-- what is read and what is to come are the whole
abbrev pub invariant-items-loop-turn : goal.invariant-items-loop-turn
invariant-items-loop-turn l = after_stmts (map stmt_view l.done) (spec.items l.room (l.most - l.turn) l.tokens) ≡ spec.items l.room l.most l.fn.tokens
