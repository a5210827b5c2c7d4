use Rattle.std.proofs.Common.{◌∙◌, sym, ap, subst, ◌∷◌, ◌++◌, [], get_or}
use Rattle.pdl_paths.specs.Actions.{place_view}
use Rattle.pdl_rules_stages.proofs.PlaceStages.{nth_stage}
use Rattle.pdl_spec.specs.Updated.{AreGuessed}
use Rattle.pdl_spec.proofs.Guesses.{passed_on}
use Rattle.pdl_spec.proofs.updated_once.UpdatedOncePathRule.step.Goals as goal

pub returns : goal.returns
returns c gs path before later s e is_on h =
    let x = place_view c.args.place.now in
    subst (AreGuessed path (before ++ x ∷ []) c.remember.new.guesses.items) (sym c.is_updated-state.ensures)
    (passed_on path before x c.args.state.now.guesses.items c.remember.new.guesses.items c.args.state.now.updated c.stage_at.result is_on
    (c.stage_at.ensures ∙ ap (λ ns. get_or ns c.args.k 0) s ∙ nth_stage before later x c.args.k e)
    c.in_ok-remember.ensures h)
