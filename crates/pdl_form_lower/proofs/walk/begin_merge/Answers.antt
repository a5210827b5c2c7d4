use Rattle.std.proofs.Common.{◌≡◌, ◌++◌, length, ap, ◌∙◌, arith}
use Rattle.pdl_form.specs.View.{stages_view, branches_view}
use Rattle.pdl_form_lower.specs.Walking.{leading}
use Rattle.pdl_form_lower.proofs.StageWays.{begun_merge, stages_push}
use Rattle.pdl_form_lower.proofs.walk.begin_merge.Goals as goal
use Rattle.pdl_form.proofs.StageRows.{length_stages}

pub returns-clause-graph : goal.returns-clause-graph
returns-clause-graph c = λ rest.
    let long : c.len-next.result ≡ length (stages_view c.args.walk.now.stages.items) = omega
    (arith, c.len-next.ensures, length_stages c.args.walk.now.stages.items) in
    ap (λ zs. leading c.len-next.result rest.next (stages_view zs) ++ rest.later) c.in_ok-push.ensures.items
    ∙ ap (λ ys. leading c.len-next.result rest.next ys ++ rest.later) (stages_push c.args.walk.now.stages.items _)
    ∙ begun_merge c.args.walk.now.stage c.len-next.result (branches_view c.args.branches) (stages_view c.args.walk.now.stages.items) rest long
