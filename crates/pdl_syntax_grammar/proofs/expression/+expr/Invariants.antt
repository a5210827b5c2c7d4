use Rattle.std.proofs.Common.{◌≡◌, ◌+◌, ◌*◌, ◌-◌, Ok}
use Rattle.pdl_syntax_grammar.specs.Reading as spec
use Rattle.pdl_syntax_tree.specs.View.{expr_view}
use Rattle.pdl_syntax_grammar.proofs.expression.+expr.Given as goal

abbrev pub decreases-arms : goal.decreases-arms
decreases-arms l = 32 * l.room + 2

abbrev pub decreases-bracketed_expr : goal.decreases-bracketed_expr
decreases-bracketed_expr l = 32 * l.room + 2

abbrev pub decreases-pair : goal.decreases-pair
decreases-pair l = 32 * l.room + 2

abbrev pub decreases-sized_expr : goal.decreases-sized_expr
decreases-sized_expr l = 32 * l.room + 2

abbrev pub decreases-inverted : goal.decreases-inverted
decreases-inverted l = 32 * l.room + 2

abbrev pub decreases-catenated : goal.decreases-catenated
decreases-catenated l = 32 * l.room + 3

abbrev pub decreases-compared : goal.decreases-compared
decreases-compared l = 32 * l.room + 3

abbrev pub decreases-extended : goal.decreases-extended
decreases-extended l = 32 * l.room + 3

abbrev pub decreases-sign_extended : goal.decreases-sign_extended
decreases-sign_extended l = 32 * l.room + 3

abbrev pub decreases-inside : goal.decreases-inside
decreases-inside l = 32 * l.room + 1

abbrev pub decreases-operand_inside : goal.decreases-operand_inside
decreases-operand_inside l = 32 * l.room + 1

abbrev pub decreases-operand : goal.decreases-operand
decreases-operand l = 32 * l.room + 4

abbrev pub decreases-chain : goal.decreases-chain
decreases-chain l = 32 * l.room + (2 * l.n + 6)

abbrev pub decreases-level : goal.decreases-level
decreases-level l = 32 * l.room + (2 * l.n + 5)

abbrev pub decreases-expr : goal.decreases-expr
decreases-expr l = 32 * l.room + 30

-- what is read and what is to come are the whole
abbrev pub invariant-chain-loop-turn : goal.invariant-chain-loop-turn
invariant-chain-loop-turn l =
    let p = spec.level (spec.operand (spec.inside l.room)) l.room l.n in
    spec.chain p l.n l.room (expr_view l.fn.first) l.fn.tokens ≡ spec.chain p l.n (l.room - l._turn) (expr_view l.left) l.tokens

-- the levels so far are read
abbrev pub invariant-level-loop-k : goal.invariant-level-loop-k
invariant-level-loop-k l = spec.level (spec.operand (spec.inside l.room)) l.room l.k l.fn.tokens ≡ Ok (expr_view l.left, l.tokens)
