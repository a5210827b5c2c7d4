-- No guard stands twice among those of some places.
use Rattle.std.proofs.Common.{◌≡◌, refl, sym, ap, ap₂, ◌∙◌, subst, Bool, true, false, ◌||◌, not, List, [], ◌∷◌, ◌++◌, fold, if◌then◌else◌}
use Rattle.std.proofs.lemmas.Bool.{and_parts, and_from, or_parts, both_ways, false_from_ne_true, not-true}
use Rattle.std.proofs.lemmas.List.Folds.{list_any-append}
use Rattle.pdl_semantics.specs.Tree.{If}
use Rattle.pdl_rules.specs.Places.{Place, Statement, Guard, guard_of, same_guard, is_among, with_guard, guards}
use Rattle.pdl_paths.specs.Masks.{are_distinct}
use Rattle.pdl_rules.proofs.Guards.{guard_refl, guard_same}

flipped : (g h : Guard) → same_guard g h ≡ false → same_guard h g ≡ false
flipped g h e = false_from_ne_true _ (λ k. both_ways (same_guard g h) e (subst (λ j. same_guard g j ≡ true) (sym (guard_same h g k)) (guard_refl g)))

pushed : (g : Guard) (gs : List Guard) → are_distinct gs ≡ true → is_among g gs ≡ false → are_distinct (gs ++ g ∷ []) ≡ true
pushed g [] d e = refl
pushed g (h ∷ gs) d e =
    let parts = and_parts (not (is_among h gs)) (are_distinct gs) d in
    let others = or_parts (same_guard g h) (is_among g gs) e in
    and_from _ _
    (ap not (list_any-append (same_guard h) gs (g ∷ []) ∙ ap₂ (λ a b. a || (b || false)) (not-true _ parts.0) (flipped g h others.0)))
    (pushed g gs parts.1 others.1)

one_more : (gs : List Guard) (x : Place) → are_distinct gs ≡ true → are_distinct (with_guard gs x) ≡ true
one_more gs (Statement (If s c _ _) _) d = at (is_among (guard_of s c) gs) refl
  where
    at : (b : Bool) → is_among (guard_of s c) gs ≡ b → are_distinct (if b then gs else gs ++ guard_of s c ∷ []) ≡ true
    at true e = d
    at false e = pushed (guard_of s c) gs d e
one_more gs _ d = d

folded : (xs : List Place) (gs : List Guard) → are_distinct gs ≡ true → are_distinct (fold with_guard gs xs) ≡ true
folded [] gs d = d
folded (x ∷ xs) gs d = folded xs (with_guard gs x) (one_more gs x d)

-- no guard stands twice among the guards of some places
pub guards_distinct : (xs : List Place) → are_distinct (guards xs) ≡ true
guards_distinct xs = folded xs [] refl
