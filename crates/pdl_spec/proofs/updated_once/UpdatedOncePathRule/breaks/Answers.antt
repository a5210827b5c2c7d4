use Rattle.std.proofs.Common.{◌≡◌, ◌∙◌, refl, sym, ap, ap₂, subst, ◌||◌, not, get_or, nat_lt, map}
use Rattle.std.specs.List.{list_any}
use Rattle.pdl_syntax_tree.specs.View.{span_view}
use Rattle.pdl_rules.specs.Parts.{is_some_and}
use Rattle.pdl_rules.specs.Stages.{stage_of}
use Rattle.pdl_paths.specs.declared.action.Action.{Action}
use Rattle.pdl_paths.specs.Actions.{place_at, place_view}
use Rattle.pdl_paths.specs.Guards.{branch_view}
use Rattle.pdl_rules_stages.proofs.PlaceStages.{nth_stage}
use Rattle.pdl_spec.specs.Updated.{is_out_of_turn, breaks_updated, stages_of}
use Rattle.pdl_spec.proofs.updated_once.UpdatedOncePathRule.breaks.Goals as goal

pub returns-in-Update : goal.returns-in-Update
returns-in-Update c gs path before later s e is_on h =
    let x = place_view c.args.place.now in
    let k = c.args.k in
    let verified = c.args.self.now.verified in
    let span = span_view c.args.place.now.span in
    let bs = map branch_view c.args.place.now.branches in
    let name = c.in-Update.guess.now.name in
    let stage = c.stage_at-stage.ensures ∙ ap (λ ns. get_or ns k 0) s ∙ nth_stage before later x k e in
    let turn : c.is_amiss.result ≡ is_out_of_turn verified path before (stage_of before x) name =
    c.is_amiss.ensures
    ∙ ap₂ (λ a b. a || b)
    (ap₂ (λ a b. a || b)
    (c.is_guessed_late.ensures
    ∙ ap₂ (λ n ns. list_any (λ j. not (nat_lt j n)) ns) stage (ap (stages_of name) c.as_slice.ensures.value ∙ h.guessed name))
    (c.is_past.ensures ∙ ap (λ n. is_some_and (λ v. not (nat_lt n v)) verified) stage))
    h.passed in
    turn
    ∙ subst
    (λ (a : Action). is_out_of_turn verified path before (stage_of before (place_at span bs a)) name
    ≡ breaks_updated verified path before (place_at span bs a))
    (sym c.in-Update.is) refl
