use Rattle.std.proofs.Common.{◌≡◌, ◌<◌, ◌++◌, suc, length, ap, ◌∙◌, arith}
use Rattle.pdl_semantics.specs.Flat.{Goes}
use Rattle.pdl_form.specs.View.{stages_view, branches_view}
use Rattle.pdl_form_lower.specs.Walking.{leading}
use Rattle.pdl_form_lower.proofs.StageWays.{begun_after, stages_push}
use Rattle.pdl_form_lower.proofs.walk.begin_after.Goals as goal
use Rattle.pdl_form.proofs.StageRows.{length_stages}

pub returns-clause-graph : goal.returns-clause-graph
returns-clause-graph c = λ rest.
    let long : c.len-next.result ≡ length (stages_view c.args.walk.now.stages.items) = omega
    (arith, c.len-next.ensures, length_stages c.args.walk.now.stages.items) in
    let next : suc c.args.walk.now.begun ≡ c.len-next.result = omega (arith, c.len-next.ensures, c.requires.begun) in
    let low : c.args.walk.now.stage < length (stages_view c.args.walk.now.stages.items) = omega
    (arith, c.requires.begun, c.requires.stage, length_stages c.args.walk.now.stages.items) in
    ap (λ ys. leading c.len-next.result rest.next ys ++ rest.later)
    (c.lead.ensures.stages
    ∙ ap (λ zs. leading c.args.walk.now.stage (Goes c.len-next.result) (stages_view zs)) c.in_ok-push.ensures.items
    ∙ ap (leading c.args.walk.now.stage (Goes c.len-next.result)) (stages_push c.args.walk.now.stages.items _))
    ∙ begun_after c.args.walk.now.stage c.len-next.result (suc c.args.walk.now.begun) (branches_view c.args.branches)
    (stages_view c.args.walk.now.stages.items) rest long next low
