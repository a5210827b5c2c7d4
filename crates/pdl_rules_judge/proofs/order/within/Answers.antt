use Rattle.std.proofs.Common.{◌≡◌, ◌≤◌, ◌∙◌, sym, ap, ap₂, subst, List, [], map, fold, length}
use Rattle.std.specs.Vec.{with_items}
use Rattle.pdl_word.proofs.Lists.{items_written}
use Rattle.pdl_syntax_tree.specs.View.{pipe_view, mem_view}
use Rattle.pdl_rules.specs.Places.{places, guards}
use Rattle.pdl_rules.specs.Speculation.{is_verify}
use Rattle.pdl_rules.specs.Stages.{first_stage}
use Rattle.pdl_rules.specs.Widths.{after_place}
use Rattle.pdl_paths.specs.declared.place.Place.{Place}
use Rattle.pdl_paths.specs.Actions.{place_view}
use Rattle.pdl_paths.specs.Masks.{AreMasked}
use Rattle.pdl_rules_stages.specs.Stages.{stages_in}
use Rattle.pdl_rules_judge.proofs.GuardCount.{few_guards}
use Rattle.pdl_rules_judge.proofs.order.within.Goals as goal

pub from_names-requires : goal.from_names-requires
from_names-requires c =
    let p = pipe_view c.args.pipe.now in
    let first : map place_view c.as_slice.result.now ≡ places p = ap (map place_view) c.as_slice.ensures.value ∙ c.requires.of in
    let own : c.in_ok-guards.guards ≡ guards (places p) = c.in_ok-guards.ensures ∙ ap guards first in
    let new = c.set_masks.new.places in
    let written : (with_items c.args.places new).items ≡ new =
    items_written c.args.places new (c.set_masks.auto.places ∙ ap (λ (xs : List Place). length xs) c.deref_mut.ensures.value) in
    let all : c.as_slice-all.result.now ≡ new = c.as_slice-all.ensures.value ∙ written in
    let of : map place_view c.as_slice-all.result.now ≡ places p =
    ap (map place_view) all ∙ c.set_masks.ensures.places ∙ ap (map place_view) c.deref_mut.ensures.value ∙ c.requires.of in
    record {
      few = subst (λ gs. length gs ≤ 10) (sym own) (few_guards p c.requires.kept);
      own = own ∙ ap guards (sym of);
      masks = subst (AreMasked c.in_ok-guards.guards) (sym all) c.set_masks.ensures.masks;
      of = of;
      variables = c.in_ok-variables.ensures ∙ ap₂ (λ ms xs. fold (after_place (map mem_view ms)) [] xs) c.as_slice-2.ensures of;
      facts = c.in_ok-facts.ensures;
      verified = c.first_stage-verified.ensures ∙ ap (first_stage is_verify []) of;
    }

pub returns-in-Ok-clause-found : goal.returns-in-Ok-clause-found
returns-in-Ok-clause-found c =
    let p = pipe_view c.args.pipe.now in
    let first : map place_view c.as_slice.result.now ≡ places p = ap (map place_view) c.as_slice.ensures.value ∙ c.requires.of in
    let own : c.in_ok-guards.guards ≡ guards (places p) = c.in_ok-guards.ensures ∙ ap guards first in
    let new = c.set_masks.new.places in
    let written : (with_items c.args.places new).items ≡ new =
    items_written c.args.places new (c.set_masks.auto.places ∙ ap (λ (xs : List Place). length xs) c.deref_mut.ensures.value) in
    let all : c.as_slice-all.result.now ≡ new = c.as_slice-all.ensures.value ∙ written in
    let of : map place_view c.as_slice-all.result.now ≡ places p =
    ap (map place_view) all ∙ c.set_masks.ensures.places ∙ ap (map place_view) c.deref_mut.ensures.value ∙ c.requires.of in
    record {
      guards = own;
      variables = c.in_ok-variables.ensures ∙ ap₂ (λ ms xs. fold (after_place (map mem_view ms)) [] xs) c.as_slice-2.ensures of;
      stages = c.in_ok-facts.ensures.by_text ∙ ap stages_in of;
      locks = c.in-Ok.ensures.locks;
      spec = c.in-Ok.ensures.spec;
    }
