use Rattle.std.proofs.Common.{◌≡◌, map, ap, subst, ◌∙◌, IfOk}
use Rattle.pdl_semantics.specs.Flatten.{Var}
use Rattle.pdl_syntax_tree.specs.View as tree
use Rattle.pdl_form.specs.View.{mems_view, mem_names, stmts_view, stages_view}
use Rattle.pdl_form.specs.FormView.{form}
use Rattle.pdl_form_lower.proofs.Forms.{form_made}
use Rattle.pdl_form_lower.proofs.pipe.lower.Goals as goal

pub returns : goal.returns
returns c =
    let p = tree.pipe_view c.args.pipe.now in
    subst (λ t. IfOk c.new.result (λ f. form f ≡ t))
    (form_made p c.in_ok-widths.field-0.widths.items (mems_view c.in_ok-widths.field-0.mems.items) (mem_names c.in_ok-widths.field-0.mems.items)
    (stmts_view c.in_ok-walk.walk.stmts.items) (stages_view c.in_ok-walk.walk.stages.items) c.in_ok-widths.field-0.start.items
    (c.in_ok-widths.ensures.widths ∙ ap (map (λ (v : Var). v.width)) c.in_ok-walk.ensures.vars)
    c.in_ok-widths.ensures.mems
    c.in_ok-widths.ensures.names
    c.in_ok-walk.ensures.stmts
    c.in_ok-walk.ensures.stages
    c.in_ok-widths.ensures.start)
    c.new.ensures
