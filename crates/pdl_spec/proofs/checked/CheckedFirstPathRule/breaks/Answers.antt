use Rattle.std.proofs.Common.{◌∙◌, ap, ap₂, ◌&&◌, ◌==◌, not, get_or}
use Rattle.std.specs.List.{list_any}
use Rattle.pdl_rules.specs.Stages.{stage_of}
use Rattle.pdl_rules.specs.Speculation.{needs_check}
use Rattle.pdl_paths.specs.Actions.{place_view}
use Rattle.pdl_rules_stages.proofs.PlaceStages.{nth_stage}
use Rattle.pdl_spec.specs.Sure.{is_before}
use Rattle.pdl_spec.proofs.checked.CheckedFirstPathRule.breaks.Goals as goal

pub returns : goal.returns
returns c gs path before later s e is_on h =
    let x = place_view c.args.place.now in
    let k = c.args.k in
    let stage = c.stage_at-stage.ensures ∙ ap (λ ns. get_or ns k 0) s ∙ nth_stage before later x k e in
    c.is_unchecked.ensures
    ∙ ap₂ (λ a b. (a && b) && not c.is_among.result) c.needs_check.ensures (c.is_before.ensures ∙ ap (is_before c.args.self.now.verified) stage)
    ∙ ap (λ b. (needs_check x && is_before c.args.self.now.verified (stage_of before x)) && not b)
    (c.is_among.ensures ∙ ap₂ (λ n ns. list_any (λ m. m == n) ns) stage (c.deref.ensures.value ∙ h))
