use Rattle.std.proofs.Common.{◌≡◌, ◌+◌, ◌++◌, ◌∷◌, [], ◌∙◌, sym, ap, subst, List, arith}
use Rattle.std.specs.Prelude.{vec_len}
use Rattle.pdl_form.specs.FormView.{form}
use Rattle.pdl_machine_run.specs.declared.stage.Stage as r_stage
use Rattle.pdl_machine_run.specs.View.{seats}
use Rattle.pdl_machine_run.specs.Ready.{AreStages}
use Rattle.pdl_machine_run.specs.Firsts.{seats_first}
use Rattle.pdl_machine_run.proofs.FirstState.{seats_push, stages_push}
use Rattle.pdl_machine_run.proofs.setup.first_stages.Goals as goal

pub loop-alloc-preserved : goal.loop-alloc-preserved
loop-alloc-preserved c =
    let f = form c.args.pipe.now in
    let old = c.loop-alloc.stages in
    let new = c.push-in-loop-alloc.new.self in
    let x = c.in_ok-stage.field-0 in
    let items : new.items ≡ old.items ++ x ∷ [] = c.in_ok-push-2.ensures.items in
    let len : vec_len new ≡ vec_len old + 1 = c.in_ok-push-2.ensures.len in
    let few = c.loop-alloc.invariant.few in
    record {
      few = omega arith;
      some = omega arith;
      stand =
          ap (λ (xs : List r_stage.Stage). seats xs) items
          ∙ seats_push f.pipe old.items x (vec_len old) c.loop-alloc.invariant.stand c.loop-alloc.invariant.some c.in_ok-stage.ensures.empty
          ∙ ap (seats_first f.pipe) (sym len);
      wide = subst (AreStages f) (sym items) (stages_push f old.items x c.loop-alloc.invariant.wide c.in_ok-stage.ensures.wide);
    }
