use Rattle.std.proofs.Common.{rules, map, ap, ◌∙◌}
use Rattle.std.proofs.lemmas.Fn.{filter_same}
use Rattle.pdl_form.specs.FormView.{form}
use Rattle.pdl_machine_run.specs.View.{awaited_view}
use Rattle.pdl_machine_run.specs.Outside.{outside}
use Rattle.pdl_machine_run.proofs.AnswerLists.{unanswered_filtered}
use Rattle.pdl_machine_run.proofs.answers.drop_answered.Goals as goal

pub returns-clause-awaits : goal.returns-clause-awaits
returns-clause-awaits c =
    ap (map awaited_view) (filter_same _ _ _ (λ x b f' k. search rules) _ _ c.retain.ensures.filtered)
    ∙ unanswered_filtered (form c.args.pipe.now).pipe (outside c.args.beside.now) c.args.replies.now c.args.thread c.args.awaits.now.items
