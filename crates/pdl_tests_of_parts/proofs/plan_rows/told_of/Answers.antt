use Rattle.std.proofs.Common.{◌≡◌, ◌∙◌, sym, ap, subst, List, length}
use Rattle.std.specs.Vec.{with_items}
use Rattle.pdl_word.proofs.Lists.{items_written}
use Rattle.pdl_paths.specs.declared.place.Place.{Place}
use Rattle.pdl_paths.specs.Masks.{AreMasked}
use Rattle.pdl_tests_of_parts.proofs.plan_rows.told_of.Goals as goal

pub told-requires-clause-masks : goal.told-requires-clause-masks
told-requires-clause-masks c =
    let new = c.set_masks.new.places in
    let written : (with_items c.in-Ok.places new).items ≡ new =
    items_written c.in-Ok.places new (c.set_masks.auto.places ∙ ap (λ (xs : List Place). length xs) c.deref_mut.ensures.value) in
    let all : c.as_slice-2.result.now ≡ new = c.as_slice-2.ensures.value ∙ written in
    subst (AreMasked c.in-Ok-of.guards) (sym all) c.set_masks.ensures.masks
