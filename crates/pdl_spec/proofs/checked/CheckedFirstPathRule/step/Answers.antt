use Rattle.std.proofs.Common.{◌≡◌, ◌∙◌, sym, ap, ap₂, ◌∷◌, ◌++◌, ◌&&◌, get_or, [], Bool, true, false, if◌then◌else◌, append-nil}
use Rattle.pdl_rules.specs.Stages.{stage_of, stages_that}
use Rattle.pdl_paths.specs.Actions.{place_view}
use Rattle.pdl_rules_stages.proofs.PlaceStages.{nth_stage, that_more}
use Rattle.pdl_spec.specs.Checked.{is_check_on}
use Rattle.pdl_spec.proofs.checked.CheckedFirstPathRule.step.Goals as goal

pub returns-in_ok-push : goal.returns-in_ok-push
returns-in_ok-push c gs path before later s e is_on h =
    let x = place_view c.args.place.now in
    let k = c.args.k in
    let is_one : is_check_on path x ≡ true = ap₂ (λ a b. a && b) is_on (sym c.is_check.ensures ∙ c.if-is_check.true) in
    c.in_ok-push.ensures.items
    ∙ ap₂ (λ ns n. ns ++ n ∷ []) h (c.stage_at.ensures ∙ ap (λ ns. get_or ns k 0) s ∙ nth_stage before later x k e)
    ∙ sym
    (that_more (is_check_on path) [] before x
    ∙ ap (λ (b : Bool). stages_that (is_check_on path) [] before ++ (if b then stage_of before x ∷ [] else [])) is_one)

pub returns-else-is_check : goal.returns-else-is_check
returns-else-is_check c gs path before later s e is_on h =
    let x = place_view c.args.place.now in
    let is_none : is_check_on path x ≡ false = ap₂ (λ a b. a && b) is_on (sym c.is_check.ensures ∙ c.if-is_check.false) in
    h
    ∙ sym (that_more (is_check_on path) [] before x
    ∙ ap (λ (b : Bool). stages_that (is_check_on path) [] before ++ (if b then stage_of before x ∷ [] else [])) is_none
    ∙ append-nil (stages_that (is_check_on path) [] before))
