use Rattle.std.proofs.Common.{◌≡◌, ◌∙◌, sym, ap, ap₂, subst, get_or, nat_lt, map, None}
use Rattle.pdl_syntax_tree.specs.View.{span_view, location_view, pipe_view}
use Rattle.pdl_rules.specs.Parts.{is_some_and}
use Rattle.pdl_rules.specs.Places.{places_after}
use Rattle.pdl_rules.specs.Stages.{bound_late, stage_of, stage_in, next_on, stage_after}
use Rattle.pdl_paths.specs.declared.action.Action.{Action}
use Rattle.pdl_paths.specs.Actions.{place_at, place_view}
use Rattle.pdl_paths.specs.Guards.{branch_view}
use Rattle.pdl_rules_stages.specs.PathBits.{HavePaths}
use Rattle.pdl_rules_stages.proofs.PlaceStages.{nth_stage}
use Rattle.pdl_locks.specs.Bound.{last_at}
use Rattle.pdl_locks.proofs.KeyNumbers.{nth_told}
use Rattle.pdl_locks.proofs.LateReads.{late_as, is_within, next_as}
use Rattle.pdl_locks.proofs.bound.BoundInTimePathRule.breaks.Goals as goal

pub returns-in-CombRead : goal.returns-in-CombRead
returns-in-CombRead c gs path before later s e is_on at =
    let p = pipe_view c.args.self.now.pipe.now in
    let x = place_view c.args.place.now in
    let k = c.args.k in
    let span = span_view c.args.place.now.span in
    let bs = map branch_view c.args.place.now.branches in
    c.is_after.ensures
    ∙ ap₂ (λ n o. is_some_and (λ l. nat_lt l n) o)
    (c.stage_at.ensures ∙ ap (λ ns. get_or ns k 0) s.by_text ∙ nth_stage before later x k e)
    (c.last_at.ensures ∙ ap (λ ns. get_or ns k None) s.released ∙ nth_told (last_at p) before later x k None e)
    ∙ subst
    (λ (a : Action). is_some_and (λ l. nat_lt l (stage_of before (place_at span bs a))) (last_at p (place_at span bs a))
    ≡ bound_late p path before (place_at span bs a))
    (sym c.in-CombRead.is)
    (late_as p (location_view c.in-CombRead.field-1.now).mem.name (stage_in before bs))

pub returns-in-DelayedRead : goal.returns-in-DelayedRead
returns-in-DelayedRead c gs path before later s e is_on at =
    let p = pipe_view c.args.self.now.pipe.now in
    let x = place_view c.args.place.now in
    let k = c.args.k in
    let rows = c.args.self.now.places.now in
    let guards = c.args.self.now.guards.now in
    let span = span_view c.args.place.now.span in
    let bs = map branch_view c.args.place.now.branches in
    let ahead = next_on path (stage_after before) (places_after p before) in
    c.is_after-in-DelayedRead.ensures
    ∙ ap₂ (λ n o. is_some_and (λ l. nat_lt l n) o)
    (c.next_on.ensures guards path (subst (λ g. HavePaths g rows) s.own s.paths) at (is_within rows before later x k s.seen e)
    ∙ next_as p path rows before later x k s.text s.seen e)
    (c.last_at-in-DelayedRead.ensures ∙ ap (λ ns. get_or ns k None) s.released ∙ nth_told (last_at p) before later x k None e)
    ∙ subst (λ (a : Action). is_some_and (λ l. nat_lt l ahead) (last_at p (place_at span bs a)) ≡ bound_late p path before (place_at span bs a))
    (sym c.in-DelayedRead.is)
    (late_as p (location_view c.in-DelayedRead.field-1.now).mem.name ahead)
