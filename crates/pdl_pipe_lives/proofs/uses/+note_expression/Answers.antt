use Rattle.std.proofs.Common.{rules, ◌≡◌, ◌∙◌, ℕ, Bool, refl, sym, ap, ap₂}
use Rattle.std.specs.Prelude.{◌||◌}
use Rattle.pdl_syntax_tree.specs.View.{op_view}
use Rattle.pdl_semantics.specs.Flat.{Expr, Binary, Cat, LessSigned, Choose}
use Rattle.pdl_form.specs.declared.form.FlatExpr.{FlatExpr, the_lemmas}
use Rattle.pdl_form.specs.View.{expr_view}
use Rattle.pdl_law_parts.specs.Lives.{uses_var}
use Rattle.pdl_pipe_lives.proofs.LastStages.{both_noted}
use Rattle.pdl_pipe_lives.proofs.uses.+note_expression.Goals as goal

pub returns-in-Binary : goal.returns-in-Binary
returns-in-Binary t c =
    let seen : expr_view c.args.e.now
    ≡ Binary (op_view c.in-Binary.op) c.in-Binary.width (expr_view c.in-Binary.a) (expr_view c.in-Binary.b) = search (rules, the_lemmas) in
    both_noted _ _ _ _ _ _ _ c.note_expression-in-Binary.ensures c.note_expression-in-Binary-2.ensures
    (λ x. ap (λ (e : Expr). uses_var e x) seen
    ∙ ap₂ (λ a b. uses_var (expr_view a) x || uses_var (expr_view b) x) (sym c.get-in-Binary.ensures) (sym c.get-in-Binary-2.ensures))

pub returns-in-Cat : goal.returns-in-Cat
returns-in-Cat t c =
    let seen : expr_view c.args.e.now ≡ Cat (expr_view c.in-Cat.a) c.in-Cat.width (expr_view c.in-Cat.b) = search (rules, the_lemmas) in
    both_noted _ _ _ _ _ _ _ c.note_expression-in-Cat.ensures c.note_expression-in-Cat-2.ensures
    (λ x. ap (λ (e : Expr). uses_var e x) seen
    ∙ ap₂ (λ a b. uses_var (expr_view a) x || uses_var (expr_view b) x) (sym c.get-in-Cat.ensures) (sym c.get-in-Cat-2.ensures))

pub returns-in-LessSigned : goal.returns-in-LessSigned
returns-in-LessSigned t c =
    let seen : expr_view c.args.e.now
    ≡ LessSigned c.in-LessSigned.width (expr_view c.in-LessSigned.a) (expr_view c.in-LessSigned.b) = search (rules, the_lemmas) in
    both_noted _ _ _ _ _ _ _ c.note_expression-in-LessSigned.ensures c.note_expression-in-LessSigned-2.ensures
    (λ x. ap (λ (e : Expr). uses_var e x) seen
    ∙ ap₂ (λ a b. uses_var (expr_view a) x || uses_var (expr_view b) x) (sym c.get-in-LessSigned.ensures) (sym c.get-in-LessSigned-2.ensures))

pub returns-in-Choose : goal.returns-in-Choose
returns-in-Choose t c =
    let seen : expr_view c.args.e.now ≡ Choose (expr_view c.in-Choose.c) (expr_view c.in-Choose.a) (expr_view c.in-Choose.b) = search (rules, the_lemmas) in
    let used : FlatExpr → ℕ → Bool = λ e x. uses_var (expr_view e) x in
    let last : ℕ → Bool = λ x. used c.get-in-Choose-2.result.now x || used c.get-in-Choose-3.result.now x in
    both_noted _ _ _ _ _ last _ c.note_expression-in-Choose.ensures
    (both_noted _ _ _ _ _ _ last c.note_expression-in-Choose-2.ensures c.note_expression-in-Choose-3.ensures (λ x. refl))
    (λ x. ap (λ (e : Expr). uses_var e x) seen
    ∙ ap₂ (λ (a : FlatExpr) (b : Bool). used a x || b) (sym c.get-in-Choose.ensures)
    (ap₂ (λ a b. used a x || used b x) (sym c.get-in-Choose-2.ensures) (sym c.get-in-Choose-3.ensures)))
