use Rattle.std.proofs.Common.{◌∙◌, ap, [], ◌∷◌, ◌++◌, map, take, arith}
use Rattle.pdl_rules.specs.Stages.{stage_in, stage_of}
use Rattle.pdl_paths.specs.Actions.{place_view}
use Rattle.pdl_paths.specs.Guards.{branch_view}
use Rattle.pdl_rules_stages.proofs.Nth.{viewed}
use Rattle.pdl_rules_stages.proofs.PlaceStages.{stages_more}
use Rattle.pdl_rules_stages.proofs.stages.stages_of.Goals as goal
use Rattle.pdl_rules_on_paths.proofs.Nth.{nth}

pub loop-k-preserved : goal.loop-k-preserved
loop-k-preserved c =
    let ps = c.args.places.now in
    let xs = map place_view ps in
    let k = c.loop-k.k in
    let x = place_view c.index-places-k.result in
    let got = nth place_view ps k c.index-places-k.result (omega arith) c.index-places-k.is in
    c.in_ok-push.ensures.items
    ∙ ap (λ n. c.loop-k.stages.items ++ n ∷ [])
    (c.stage_in.ensures ∙ ap (λ b. stage_in b (map branch_view c.branches_at.result.now)) (viewed place_view ps k)
    ∙ ap (stage_in (take k xs)) c.branches_at.ensures)
    ∙ ap (λ ns. ns ++ stage_of (take k xs) x ∷ []) c.loop-k.invariant
    ∙ stages_more xs k x got
