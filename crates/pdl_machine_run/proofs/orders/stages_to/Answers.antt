use Rattle.std.proofs.Common.{◌≡◌, ◌+◌, ◌∙◌, suc, sym, ap, take, arith}
use Rattle.std.proofs.lemmas.List.{take-map}
use Rattle.pdl_form.specs.View.{stage_view, stages_view}
use Rattle.pdl_machine_run.proofs.orders.stages_to.Goals as goal

pub returns-then-last-stages : goal.returns-then-last-stages
returns-then-last-stages c =
    let same : c.args.last + 1 ≡ suc c.args.last = omega arith in
    ap (λ n. stages_view (take n c.args.stages.now)) same ∙ sym (take-map stage_view (suc c.args.last) c.args.stages.now)
