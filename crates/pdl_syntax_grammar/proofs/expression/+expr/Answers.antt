use Rattle.std.proofs.lemmas.Result.{err_from_is_err_and}
use Rattle.std.proofs.Common.{rules, ◌≡◌, ◌≢◌, ◌+◌, ◌-◌, arith, Ok, Some}
use Rattle.pdl_syntax_tokens.specs.Cursor.{next, first_kind}
use Rattle.pdl_syntax_grammar.specs.Reading as spec
use Rattle.pdl_syntax_tree.specs.View.{op_view, expr_view}
use Rattle.pdl_syntax_grammar.proofs.DepthLevels.{level_fails_first, level_goes_on}
use Rattle.pdl_syntax_grammar.proofs.expression.+expr.Goals as goal

pub chain-loop-turn-preserved : goal.chain-loop-turn-preserved
chain-loop-turn-preserved t c =
    let p = spec.level (spec.operand (spec.inside c.args.room)) c.args.room c.args.n in
    let op : spec.op_in c.args.n (first_kind c.loop-turn.tokens) ≡ Some (op_view c.in-Some.op) = search rules in
    let read : p (next c.loop-turn.tokens) ≡ Ok (expr_view c.in_ok-right-in-Some.right, c.level.new.tokens) = search rules in
    level_goes_on p c.args.n (c.args.room - (c.loop-turn._turn + 1)) (c.args.room - c.loop-turn._turn)
    (op_view c.in-Some.op) (expr_view c.loop-turn.left) (expr_view c.in_ok-right-in-Some.right)
    (expr_view c.in_ok-left-in-Some.left)
    c.loop-turn.tokens c.level.new.tokens (spec.chain p c.args.n c.args.room (expr_view c.args.first) c.args.tokens.now)
    (omega arith) op read (search rules) c.loop-turn.invariant

pub level-returns-in_err-left : goal.level-returns-in_err-left
level-returns-in_err-left t c =
    let e = err_from_is_err_and c.from_residual.result c.from_residual.ensures.1 in
    rw (e.1, e.2)
    (λ h. level_fails_first (spec.operand (spec.inside c.args.room)) c.args.room c.args.n c.args.tokens.now c.operand.new.tokens (c.in_err-left.ensures h))
