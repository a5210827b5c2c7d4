use Rattle.std.proofs.Common.{◌≡◌, ◌∙◌, refl, sym, ap, ap₂, subst, ◌&&◌, not, get_or, nat_lt, map, []}
use Rattle.pdl_syntax_tree.specs.View.{span_view, pipe_view}
use Rattle.pdl_rules.specs.Places.{on_path}
use Rattle.pdl_rules.specs.Parts.{is_some_and}
use Rattle.pdl_rules.specs.Stages.{stage_of, stages_that}
use Rattle.pdl_rules.specs.Speculation.{is_unverified, is_once_after, verify_stages, is_verify_of}
use Rattle.pdl_paths.specs.declared.action.Action.{Action}
use Rattle.pdl_paths.specs.Actions.{place_at, place_view}
use Rattle.pdl_paths.specs.Guards.{branch_view}
use Rattle.pdl_rules_stages.specs.PathBits.{HavePaths}
use Rattle.pdl_rules_stages.specs.Stages.{stages_in}
use Rattle.pdl_rules_stages.proofs.PlaceStages.{nth_stage}
use Rattle.pdl_spec.specs.Verified.{only}
use Rattle.pdl_spec.proofs.SingleNumber.{once_after}
use Rattle.pdl_spec.proofs.verified.VerifiedOncePathRule.breaks.Goals as goal

pub returns-in-SpecCall : goal.returns-in-SpecCall
returns-in-SpecCall c gs path before later s e is_on at =
    let p = pipe_view c.args.self.now.pipe.now in
    let x = place_view c.args.place.now in
    let k = c.args.k in
    let rows = c.args.self.now.places.now in
    let guards = c.args.self.now.guards.now in
    let span = span_view c.args.place.now.span in
    let bs = map branch_view c.args.place.now.branches in
    let name = c.in-SpecCall.guess.now.name in
    ap not
    (c.is_after.ensures
    ∙ ap₂ (λ n o. is_some_and (λ v. nat_lt n v) o)
    (c.stage_at.ensures ∙ ap (λ ns. get_or ns k 0) s.by_text ∙ nth_stage before later x k e)
    (c.only_verify-verify.ensures guards path (subst (λ g. HavePaths g rows) s.own s.paths) at (s.by_text ∙ ap stages_in s.seen)
    ∙ ap (λ ys. only (stages_that (λ y. on_path path y && is_verify_of name y) [] ys)) (sym s.seen ∙ s.text))
    ∙ once_after (stage_of before x) (verify_stages p path name))
    ∙ subst
    (λ (a : Action). not (is_once_after (stage_of before (place_at span bs a)) (verify_stages p path name))
    ≡ is_unverified p path before (place_at span bs a))
    (sym c.in-SpecCall.is) refl
