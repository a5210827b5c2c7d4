use Rattle.std.proofs.Common.{◌≡◌, ◌-◌, [], length, sym, ap, ap₂, ◌∙◌}
use Rattle.pdl_syntax_tree.specs.declared.tree.Stmt as r_stmt
use Rattle.pdl_syntax_tree.specs.declared.tree.Stmt.TheVariants as r_stmts
use Rattle.pdl_syntax_tree.specs.declared.tree.Stmt.TheOpen.{Stmt-F}
use Rattle.pdl_semantics.specs.Tree as Tree
use Rattle.pdl_syntax_tree.specs.View as tree
use Rattle.pdl_rules.specs.Places.{with_inner, statements}
use Rattle.pdl_rules_judge.proofs.ForkCounts.{left_if}
use Rattle.pdl_rules_judge.proofs.inside.+places.Goals as goal

pub left_after_one-returns-in-If : goal.left_after_one-returns-in-If
left_after_one-returns-in-If t c =
    let cond = tree.expr_view c.in-If.condition in
    let when = tree.stmts_view c.as_slice.result.now in
    let other = tree.stmts_view c.as_slice-in-If.result.now in
    let is : tree.stmt_view c.args.s.now ≡ Tree.If (tree.span_view c.in-If.span) cond when other =
    ap tree.stmt_view c.in-If.is
    ∙ ap tree.stmt_view (sym (r_stmts.rolls-If c.in-If.span c.in-If.condition c.in-If.then c.in-If.otherwise))
    ∙ r_stmt.fold-roll-Stmt Tree.Stmt tree.stmt_step (Stmt-F.If c.in-If.span c.in-If.condition c.in-If.then c.in-If.otherwise)
    ∙ ap₂ (λ xs ys. Tree.If (tree.span_view c.in-If.span) cond (tree.stmts_view xs) (tree.stmts_view ys))
    (sym c.as_slice.ensures) (sym c.as_slice-in-If.ensures) in
    c.left_after.ensures
    ∙ ap (λ n. n - length (statements [] other)) (c.left_after-first.ensures ∙ ap (λ n. n - length (statements [] when)) c.saturating_sub-after.ensures)
    ∙ left_if (tree.span_view c.in-If.span) cond when other c.args.left
    ∙ ap (λ s. c.args.left - length (with_inner [] s)) (sym is)
