use Rattle.std.proofs.Common.{◌∙◌, sym, ap, subst, ◌<◌, ◌≤◌, ◌&&◌, [], map, length, get_or, Some, arith}
use Rattle.std.proofs.lemmas.List.{length-map}
use Rattle.pdl_rules.specs.Places.{Place, on_path}
use Rattle.pdl_rules.specs.Stages.{stages_that}
use Rattle.pdl_rules.specs.Speculation.{is_verify_of}
use Rattle.pdl_paths.specs.Actions.{place_view}
use Rattle.pdl_paths.specs.Masks.{IsMasked}
use Rattle.pdl_rules_stages.proofs.PlaceStages.{stage_got}
use Rattle.pdl_spec.specs.Verified.{only}
use Rattle.pdl_spec.proofs.SingleNumber.{as_list, only_one, second, first, no_one, all_taken}
use Rattle.pdl_spec.proofs.verified.only_verify.Goals as goal
use Rattle.pdl_spec.proofs.verified.only_verify.Goals.{then-is_verify_on+in-None, else-is_verify_on}
use Rattle.pdl_rules_on_paths.proofs.Nth.{nth}

pub returns-in-Some : goal.returns-in-Some
returns-in-Some c gs on h p s =
    let ps = c.args.places.now in
    let k = c.loop-k.k in
    let y = c.index-places-k.result in
    let below : k < length ps = omega arith in
    let masked = subst (λ q. IsMasked gs q) (sym c.index-places-k.is) (h.masks k y below) in
    second (λ z. on_path on z && is_verify_of c.args.guess.now z) (map place_view ps) k (place_view y) _ (nth place_view ps k y below c.index-places-k.is)
    (sym (c.is_verify_on.ensures gs on masked h.distinct h.few p) ∙ c.if-is_verify_on.true)
    (c.loop-k.invariant gs on h p s ∙ ap as_list c.in-Some.is)

pub loop-k-preserved : goal.loop-k-preserved
loop-k-preserved c gs on h p s =
    let ps = c.args.places.now in
    let xs = map place_view ps in
    let k = c.loop-k.k in
    let y = c.index-places-k.result in
    let x = place_view y in
    let below : k < length ps = omega arith in
    let masked = subst (λ q. IsMasked gs q) (sym c.index-places-k.is) (h.masks k y below) in
    let got = nth place_view ps k y below c.index-places-k.is in
    let test = λ (z : Place). on_path on z && is_verify_of c.args.guess.now z in
    let tested = c.is_verify_on.ensures gs on masked h.distinct h.few p in
    elim c.if-is_verify_on.branch [
      | then-is_verify_on+in-None w ↦
          first test xs k x got (sym tested ∙ w.if-is_verify_on.true) (c.loop-k.invariant gs on h p s ∙ ap as_list w.in-None.is)
          ∙ ap (λ n. as_list (Some n)) (sym (w.stage_at.ensures ∙ ap (λ ns. get_or ns k 0) s ∙ stage_got xs k x got))
          ∙ sym (ap as_list w.found-is)
      | else-is_verify_on w ↦ no_one test xs k x got (sym tested ∙ w.if-is_verify_on.false) ∙ c.loop-k.invariant gs on h p s ∙ sym (ap as_list w.found-is)
    ]

pub returns : goal.returns
returns c gs on h p s =
    let xs = map place_view c.args.places.now in
    let past : length xs ≤ c.loop-k.k = omega (arith, length-map c.args.places.now place_view) in
    only_one c.loop-k.found
    ∙ ap only (sym (c.loop-k.invariant gs on h p s))
    ∙ ap (λ ys. only (stages_that (λ y. on_path on y && is_verify_of c.args.guess.now y) [] ys)) (all_taken xs c.loop-k.k past)
