-- Lists whose elements a loop changes one after the other.
use Rattle.std.proofs.Common.{◌≡◌, sym, ap, ap₂, ◌∙◌, subst, ℕ, ◌+◌, ◌<◌, List, [], ◌∷◌, ◌++◌, map, take, drop, length, get_or, set}
use Rattle.std.proofs.lemmas.List.{map-append, take_more, take_more_set, drop_more, drop-set-lt}
use Rattle.std.proofs.Common.{arith}
use Rattle.pdl_word.proofs.Lists.{head_same, tail_same}

module _ {X Y : Type 0} (view : X → Y) (now all : List X) (i : ℕ) (x d : X) (h : i < length now)
    (n : length now ≡ length all) (left : drop i now ≡ drop i all) where
  within : i < length all
  within = subst (λ k. i < k) n h

  same : get_or now i d ∷ drop (i + 1) now ≡ get_or all i d ∷ drop (i + 1) all
  same = sym (drop_more now i d h) ∙ left ∙ drop_more all i d within

  -- after the element at i was set, those after it are the old ones
  pub swept_left : drop (i + 1) (set now i x) ≡ drop (i + 1) all
  swept_left = drop-set-lt (i + 1) now i x (omega arith) ∙ tail_same same

  -- f of lists side by side is f of each, and the new element is f of the old one
  pub swept_done : (f : List Y → List Y) → ((a b : List Y) → f (a ++ b) ≡ f a ++ f b)
      → map view (take i now) ≡ f (map view (take i all)) → view x ∷ [] ≡ f (view (get_or now i d) ∷ [])
      → map view (take (i + 1) (set now i x)) ≡ f (map view (take (i + 1) all))
  swept_done f splits done one =
      ap (map view) (take_more_set now i x h)
      ∙ map-append view (take i now) (x ∷ [])
      ∙ ap₂ (λ (a b : List Y). a ++ b) done (one ∙ ap (λ y. f (view y ∷ [])) (head_same same))
      ∙ sym (splits (map view (take i all)) (view (get_or all i d) ∷ []))
      ∙ ap f (sym (map-append view (take i all) (get_or all i d ∷ [])))
      ∙ ap (λ (a : List X). f (map view a)) (sym (take_more all i d within))
