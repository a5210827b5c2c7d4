use Rattle.std.proofs.Common.{◌∙◌, sym, ap, ap₂, map, take, get_or, not, ◌==◌}
use Rattle.pdl_rules.specs.Parts.{is_some_and}
use Rattle.pdl_paths.specs.Actions.{place_view}
use Rattle.pdl_rules_stages.specs.Stages.{is_sought}
use Rattle.pdl_rules_stages.specs.Astray.{is_astray}
use Rattle.pdl_rules_stages.proofs.PlaceStages.{stage_got, elsewhere_before}
use Rattle.pdl_rules_stages.proofs.astray.is_astray.Goals as goal
use Rattle.pdl_rules_on_paths.proofs.Nth.{nth}

pub returns-in-Some : goal.returns-in-Some
returns-in-Some c =
    let xs = map place_view c.args.places.now in
    let k = c.args.k in
    let x = place_view c.index-places-k.result in
    let got = nth place_view c.args.places.now k c.index-places-k.result c.requires.here c.index-places-k.is in
    c.is_elsewhere.ensures
    ∙ ap₂ (λ n o. is_some_and (λ s. not (s == n)) o) (c.stage_at.ensures ∙ ap (λ ns. get_or ns k 0) c.requires.own ∙ stage_got xs k x got) c.first_stage.ensures
    ∙ elsewhere_before (is_sought c.in-Some.sought) xs k x got c.in-Some.ensures.is_one
    ∙ sym (c.in-Some.ensures.where_astray (take k xs))
    ∙ sym (ap (is_some_and (is_astray c.args.kinds (take k xs))) got)

pub returns-in-None : goal.returns-in-None
returns-in-None c =
    let xs = map place_view c.args.places.now in
    let k = c.args.k in
    let got = nth place_view c.args.places.now k c.index-places-k.result c.requires.here c.index-places-k.is in
    sym (ap (is_some_and (is_astray c.args.kinds (take k xs))) got ∙ c.in-None.ensures (take k xs))
