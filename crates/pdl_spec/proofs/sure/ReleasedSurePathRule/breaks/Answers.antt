use Rattle.std.proofs.Common.{◌≡◌, ◌∙◌, sym, ap, ◌&&◌, true, false, filter, get_or}
use Rattle.pdl_rules.specs.Places.{on_path}
use Rattle.pdl_rules.specs.Stages.{stage_of}
use Rattle.pdl_rules.specs.Speculation.{releases_unsure}
use Rattle.pdl_paths.specs.Actions.{place_view}
use Rattle.pdl_rules_stages.proofs.PlaceStages.{nth_stage}
use Rattle.pdl_locks.specs.declared.numbers.Keys.TheVariants.{Locations}
use Rattle.pdl_locks.specs.Uses.{IsUsed}
use Rattle.pdl_locks.proofs.UseSteps.{own}
use Rattle.pdl_spec.specs.Sure.{is_before}
use Rattle.pdl_spec.proofs.sure.ReleasedSurePathRule.breaks.Goals as goal

pub returns-then-is_before : goal.returns-then-is_before
returns-then-is_before c gs path before later s e is_on h =
    let x = place_view c.args.place.now in
    let k = c.args.k in
    let uses = c.args.state.now.uses.items in
    let earlier = filter (on_path path) before in
    let none = c.none.result in
    let stage = c.stage_at.ensures ∙ ap (λ ns. get_or ns k 0) s.by_text ∙ nth_stage before later x k e in
    let early : is_before c.args.self.now.verified (stage_of before x) ≡ true =
    sym (c.is_before.ensures ∙ ap (is_before c.args.self.now.verified) stage) ∙ c.if-is_before.true in
    c.is_unsure.ensures earlier
    (own Locations IsUsed c.args.self.now.places.now c.args.self.now.first.now before later x k uses none c.use_at-used.result earlier s.numbers e h.kept
    (c.use_at-used.ensures ∙ ap (λ us. get_or us c.number_of.result none) c.as_slice.ensures.value ∙ ap (λ n. get_or uses n none) c.number_of.ensures))
    h.passed
    ∙ sym (ap (λ b. b && releases_unsure earlier x) early)

pub returns-else-is_before : goal.returns-else-is_before
returns-else-is_before c gs path before later s e is_on h =
    let x = place_view c.args.place.now in
    let k = c.args.k in
    let earlier = filter (on_path path) before in
    let stage = c.stage_at.ensures ∙ ap (λ ns. get_or ns k 0) s.by_text ∙ nth_stage before later x k e in
    let late : is_before c.args.self.now.verified (stage_of before x) ≡ false =
    sym (c.is_before.ensures ∙ ap (is_before c.args.self.now.verified) stage) ∙ c.if-is_before.false in
    c.if-is_before.false ∙ sym (ap (λ b. b && releases_unsure earlier x) late)
