use Rattle.std.proofs.Common.{◌≡◌, IfOk, sym, ap, ap₂, subst, ◌∙◌}
use Rattle.pdl_semantics.specs.Tree as Tree
use Rattle.pdl_semantics.specs.Flatten as spec
use Rattle.pdl_syntax_tree.specs.declared.tree.Expr as r_expr
use Rattle.pdl_syntax_tree.specs.declared.tree.Expr.TheVariants as r_exprs
use Rattle.pdl_syntax_tree.specs.declared.tree.Expr.TheOpen.{Expr-F}
use Rattle.pdl_syntax_tree.specs.declared.tree.BinaryOp as r_op
use Rattle.pdl_syntax_tree.specs.View.{expr_step, op_view, expr_view as tree_view}
use Rattle.pdl_form.specs.View.{expr_view}
use Rattle.pdl_form_lower.proofs.expr.+flat.Goals as goal

seen_binary : (op : r_op.BinaryOp) (a b : r_expr.Expr) → tree_view (r_exprs.Binary op a b) ≡ Tree.Binary (op_view op) (tree_view a) (tree_view b)
seen_binary op a b = ap tree_view (sym (r_exprs.rolls-Binary op a b)) ∙ r_expr.fold-roll-Expr Tree.Expr expr_step (Expr-F.Binary op a b)

seen_cat : (a b : r_expr.Expr) → tree_view (r_exprs.Cat a b) ≡ Tree.Cat (tree_view a) (tree_view b)
seen_cat a b = ap tree_view (sym (r_exprs.rolls-Cat a b)) ∙ r_expr.fold-roll-Expr Tree.Expr expr_step (Expr-F.Cat a b)

seen_less : (a b : r_expr.Expr) → tree_view (r_exprs.LessSigned a b) ≡ Tree.LessSigned (tree_view a) (tree_view b)
seen_less a b = ap tree_view (sym (r_exprs.rolls-LessSigned a b)) ∙ r_expr.fold-roll-Expr Tree.Expr expr_step (Expr-F.LessSigned a b)

seen_choose : (c a b : r_expr.Expr) → tree_view (r_exprs.Choose c a b) ≡ Tree.Choose (tree_view c) (tree_view a) (tree_view b)
seen_choose c a b = ap tree_view (sym (r_exprs.rolls-Choose c a b)) ∙ r_expr.fold-roll-Expr Tree.Expr expr_step (Expr-F.Choose c a b)

pub binary_with-returns-clause-form : goal.binary_with-returns-clause-form
binary_with-returns-clause-form t c = λ x w p q. c.binary.ensures.form x _ w p c.flat_operand-b.ensures.form q

pub cat_with-returns-clause-form : goal.cat_with-returns-clause-form
cat_with-returns-clause-form t c = λ x p. c.cat.ensures.form x _ _ p c.flat_operand-b.ensures.form c.flat_operand-b.ensures.width

pub less_with-returns-clause-form : goal.less_with-returns-clause-form
less_with-returns-clause-form t c = λ x w p q. c.less_signed.ensures.form x _ w p c.flat_operand-b.ensures.form q

pub choice_with-returns-clause-form : goal.choice_with-returns-clause-form
choice_with-returns-clause-form t c = λ z x p q. c.choose.ensures.form z x _ p q c.flat_operand-b.ensures.form

pub flat_expr-returns-in-Binary-clause-form : goal.flat_expr-returns-in-Binary-clause-form
flat_expr-returns-in-Binary-clause-form t c =
    subst (λ x. IfOk c.binary_with.result (λ r. expr_view r.e ≡ spec.flat_expr c.args.vars.now.vars x))
    (sym (ap tree_view c.in-Binary.is ∙ seen_binary c.in-Binary.op c.in-Binary.a c.in-Binary.b
    ∙ ap₂ (λ x y. Tree.Binary (op_view c.in-Binary.op) (tree_view x) (tree_view y)) (sym c.get-in-Binary.ensures) (sym c.get-in-Binary-2.ensures)))
    (c.binary_with.ensures.form _ _ c.flat_operand-a.ensures.form c.flat_operand-a.ensures.width)

pub flat_expr-returns-in-Binary-clause-width : goal.flat_expr-returns-in-Binary-clause-width
flat_expr-returns-in-Binary-clause-width t c =
    subst (λ x. IfOk c.binary_with.result (λ r. r.width ≡ spec.width_of c.args.vars.now.vars x))
    (sym (ap tree_view c.in-Binary.is ∙ seen_binary c.in-Binary.op c.in-Binary.a c.in-Binary.b
    ∙ ap (λ x. Tree.Binary (op_view c.in-Binary.op) (tree_view x) (tree_view c.in-Binary.b)) (sym c.get-in-Binary.ensures)))
    (c.binary_with.ensures.width _ c.flat_operand-a.ensures.width)

pub flat_expr-returns-in-Cat-clause-form : goal.flat_expr-returns-in-Cat-clause-form
flat_expr-returns-in-Cat-clause-form t c =
    subst (λ x. IfOk c.cat_with.result (λ r. expr_view r.e ≡ spec.flat_expr c.args.vars.now.vars x))
    (sym (ap tree_view c.in-Cat.is ∙ seen_cat c.in-Cat.a c.in-Cat.b
    ∙ ap₂ (λ x y. Tree.Cat (tree_view x) (tree_view y)) (sym c.get-in-Cat.ensures) (sym c.get-in-Cat-2.ensures)))
    (c.cat_with.ensures.form _ c.flat_operand-a-in-Cat.ensures.form)

pub flat_expr-returns-in-LessSigned-clause-form : goal.flat_expr-returns-in-LessSigned-clause-form
flat_expr-returns-in-LessSigned-clause-form t c =
    subst (λ x. IfOk c.less_with.result (λ r. expr_view r.e ≡ spec.flat_expr c.args.vars.now.vars x))
    (sym (ap tree_view c.in-LessSigned.is ∙ seen_less c.in-LessSigned.a c.in-LessSigned.b
    ∙ ap₂ (λ x y. Tree.LessSigned (tree_view x) (tree_view y)) (sym c.get-in-LessSigned.ensures) (sym c.get-in-LessSigned-2.ensures)))
    (c.less_with.ensures.form _ _ c.flat_operand-a-in-LessSigned.ensures.form c.flat_operand-a-in-LessSigned.ensures.width)

pub flat_expr-returns-in-Choose-clause-form : goal.flat_expr-returns-in-Choose-clause-form
flat_expr-returns-in-Choose-clause-form t c =
    subst (λ x. IfOk c.choice_with.result (λ r. expr_view r.e ≡ spec.flat_expr c.args.vars.now.vars x))
    (sym (ap tree_view c.in-Choose.is ∙ seen_choose c.in-Choose.c c.in-Choose.a c.in-Choose.b
    ∙ ap (λ x. Tree.Choose (tree_view x) (tree_view c.in-Choose.a) (tree_view c.in-Choose.b)) (sym c.get-in-Choose.ensures)
    ∙ ap₂ (λ x y. Tree.Choose (tree_view c.get-in-Choose.result.now) (tree_view x) (tree_view y))
    (sym c.get-in-Choose-2.ensures) (sym c.get-in-Choose-3.ensures)))
    (c.choice_with.ensures.form _ _ c.flat_operand-c.ensures.form c.flat_operand-a-in-Choose.ensures.form)
