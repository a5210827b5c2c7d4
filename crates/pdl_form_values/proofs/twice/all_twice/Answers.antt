use Rattle.std.proofs.Common.{◌≡◌, ◌∙◌, ◌<◌, ap, sym, subst, length}
use Rattle.std.proofs.lemmas.List.{length-map}
use Rattle.pdl_form.specs.View.{mem_view}
use Rattle.pdl_form.specs.FormView.{form}
use Rattle.pdl_semantics.specs.SecondWrites.{all_twice, reserves_twice}
use Rattle.pdl_form_values.proofs.SecondWrites.{next_twice}
use Rattle.pdl_form_values.proofs.twice.all_twice.Goals as goal

pub loop-m-preserved : goal.loop-m-preserved
loop-m-preserved c =
    let f = (form c.args.pipe.now).pipe in
    let count : length c.mems-m-end.result.now ≡ length f.mems = sym (length-map c.mems-m-end.result.now mem_view) ∙ ap length c.mems-m-end.ensures.mems in
    next_twice f.stmts f.mems c.loop-m.m c.loop-m.twice.items c.push.new.self.items (all_twice f.stmts 0 f.mems) c.reserves_twice.result
    (subst (λ n. c.loop-m.m < n) count c.loop-m-test.true) c.in_ok-push.ensures.items
    (c.reserves_twice.ensures ∙ ap (λ xs. reserves_twice c.loop-m.m xs) c.stmts-stmts.ensures) c.loop-m.invariant
