use Rattle.std.proofs.Common.{rules, ◌≡◌, ◌+◌, ◌-◌, ◌∙◌, ◌++◌, map, ap, sym, arith, Ok, false}
use Rattle.pdl_syntax_tokens.specs.declared.token.Mark.TheVariants as mark
use Rattle.pdl_syntax_tokens.specs.Cursor.{first_kind}
use Rattle.pdl_syntax_grammar.specs.Read.{item_view, after_stmts}
use Rattle.pdl_syntax_cursor.specs.Looks.{is_mark}
use Rattle.pdl_syntax_grammar.specs.Reading as spec
use Rattle.pdl_syntax_tree.specs.View.{stmt_view}
use Rattle.pdl_syntax_grammar.proofs.Rows.{items_item}
use Rattle.pdl_syntax_grammar.proofs.branch.+items.Goals as goal

pub items-loop-turn-preserved : goal.items-loop-turn-preserved
items-loop-turn-preserved t c =
    let room = c.args.room in
    let m = c.args.most - c.loop-turn.turn - 1 in
    let ss = map stmt_view c.loop-turn.done in
    let s = item_view c.in_ok-next.next in
    let other : is_mark mark.CloseBrace (first_kind c.loop-turn.tokens) ≡ false = search rules in
    let read : spec.item room (spec.items room m) c.loop-turn.tokens ≡ Ok (s, c.item.new.tokens) = search rules in
    ap (λ xs. after_stmts xs (spec.items room (c.args.most - (c.loop-turn.turn + 1)) c.item.new.tokens)) c.in_ok-add.ensures
    ∙ (ap (λ k. after_stmts (ss ++ s) (spec.items room k c.item.new.tokens)) (omega arith)
    ∙ (sym (items_item room (c.args.most - c.loop-turn.turn) m ss s c.loop-turn.tokens c.item.new.tokens (omega arith) other read) ∙ c.loop-turn.invariant))
