use Rattle.std.proofs.Common.{◌≡◌, ◌+◌, suc, ◌∙◌, ap, sym, take, arith}
use Rattle.std.proofs.lemmas.List.{take-map}
use Rattle.pdl_form.specs.View.{stage_view, stages_view}
use Rattle.pdl_pipe_beside.specs.Orders.{merged_in}
use Rattle.pdl_pipe_beside.proofs.order_round.is_merged_by.Goals as goal

pub returns-then-last-stages : goal.returns-then-last-stages
returns-then-last-stages c =
    let ss = c.args.stages.now in
    let n = c.args.last in
    let next : n + 1 ≡ suc n = omega arith in
    c.is_merged.ensures
    ∙ ap (λ xs. merged_in (stages_view xs) c.args.fork) c.front.ensures
    ∙ ap (λ i. merged_in (stages_view (take i ss)) c.args.fork) next
    ∙ ap (λ xs. merged_in xs c.args.fork) (sym (take-map stage_view (suc n) ss))
