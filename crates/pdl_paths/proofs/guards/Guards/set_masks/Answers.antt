use Rattle.std.proofs.Common.{◌≡◌, ◌<◌, refl, sym, ap, subst, ◌∙◌, length}
use Rattle.std.proofs.Math.Seq.{map-set_same}
use Rattle.std.proofs.lemmas.List.{length-map}
use Rattle.pdl_paths.specs.Actions.{place_view}
use Rattle.pdl_paths.specs.Masks.{mask_of}
use Rattle.pdl_paths.proofs.MaskedPlaces.{one_masked}
use Rattle.pdl_paths.proofs.guards.Guards.set_masks.Goals as goal

pub loop-place-preserved : goal.loop-place-preserved
loop-place-preserved c =
    let ps = c.loop-place.places in
    let i = c.loop-place.place-index in
    let same : length ps ≡ length c.args.places.now =
    sym (length-map ps place_view) ∙ ap length c.loop-place.invariant.0 ∙ length-map c.args.places.now place_view in (
      map-set_same place_view ps i _ _ refl ∙ c.loop-place.invariant.0,
      one_masked c.args.self.now ps i _ (subst (λ n. i < n) (sym same) c.loop-place-test.true) c.loop-place.invariant.1
          (c.mask_of-place.ensures ∙ ap (mask_of c.args.self.now) c.branches_at.ensures),
    )
