use Rattle.std.proofs.Common.{◌∙◌, sym, ap, map, get_or, Some, arith}
use Rattle.pdl_paths.specs.Actions.{place_view}
use Rattle.pdl_rules_stages.specs.Stages.{is_sought}
use Rattle.pdl_rules_stages.proofs.PlaceStages.{stage_got, first_here, first_later}
use Rattle.pdl_rules_stages.proofs.first.first_stage.Goals as goal
use Rattle.pdl_rules_on_paths.proofs.Nth.{nth}

pub returns-then-is_of : goal.returns-then-is_of
returns-then-is_of c =
    let xs = map place_view c.args.places.now in
    let k = c.loop-k.k in
    let x = place_view c.index-places-k.result in
    let got = nth place_view c.args.places.now k c.index-places-k.result (omega arith) c.index-places-k.is in
    ap Some (c.stage_at.ensures ∙ ap (λ ns. get_or ns k 0) c.requires ∙ stage_got xs k x got)
    ∙ sym (first_here (is_sought c.args.sought) xs k x got (sym c.is_of.ensures ∙ c.if-is_of.true))
    ∙ c.loop-k.invariant

pub loop-k-preserved : goal.loop-k-preserved
loop-k-preserved c =
    let xs = map place_view c.args.places.now in
    let k = c.loop-k.k in
    let x = place_view c.index-places-k.result in
    let got = nth place_view c.args.places.now k c.index-places-k.result (omega arith) c.index-places-k.is in
    sym (first_later (is_sought c.args.sought) xs k x got (sym c.is_of.ensures ∙ c.if-is_of.false)) ∙ c.loop-k.invariant
