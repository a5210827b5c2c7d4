use Rattle.std.proofs.Common.{◌∙◌, ap, sym}
use Rattle.pdl_form.specs.FormView.{form}
use Rattle.pdl_form.specs.View.{next_view}
use Rattle.pdl_semantics.specs.Stages.{stage_at}
use Rattle.pdl_pipe_beside.proofs.EndGrowth.{fork_at, fork_var}
use Rattle.pdl_pipe_beside.proofs.order_round.into_merge.Goals as goal

pub by_variable-requires-clause-var : goal.by_variable-requires-clause-var
by_variable-requires-clause-var c =
    let f = form c.args.round.now.pipe.now in
    let k = c.args.k in
    let x = c.in-Forks in
    (fork_var f.widths (stage_at f.pipe k).next x.x x.first x.second (sym c.next_of.ensures ∙ ap next_view x.is)
    (fork_at f.widths f.pipe.stages k c.requires.stage c.requires.forks)).0

pub by_variable-requires-clause-wide : goal.by_variable-requires-clause-wide
by_variable-requires-clause-wide c =
    let f = form c.args.round.now.pipe.now in
    let k = c.args.k in
    let x = c.in-Forks in
    (fork_var f.widths (stage_at f.pipe k).next x.x x.first x.second (sym c.next_of.ensures ∙ ap next_view x.is)
    (fork_at f.widths f.pipe.stages k c.requires.stage c.requires.forks)).1
