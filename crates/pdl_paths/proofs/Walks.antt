-- Lists and folds that a loop makes of the elements of another list.
use Rattle.std.proofs.Common.{◌≡◌, ℕ, ◌+◌, ◌<◌, List, [], ◌∷◌, ◌++◌, map, take, length, get_or, fold, ap, sym, ◌∙◌, append_assoc}
use Rattle.std.proofs.lemmas.List.{map-append, take_more}
use Rattle.std.proofs.lemmas.Grind.{fold-append}

-- a list with one more item pushed has the items of one element more
pub pushed : {P Q R : Type 0} (view : P → R) (f : Q → R) (front : List R) (ps : List P) (xs : List Q) (i : ℕ) (p : P) (x : Q)
    → map view ps ≡ front ++ map f (take i xs) → i < length xs → x ≡ get_or xs i x → view p ≡ f x
    → map view (ps ++ p ∷ []) ≡ front ++ map f (take (i + 1) xs)
pushed view f front ps xs i p x so_far here is same =
    map-append view ps (p ∷ [])
    ∙ ap (λ a. a ++ view p ∷ []) so_far
    ∙ append_assoc front (map f (take i xs)) (view p ∷ [])
    ∙ ap (λ a. front ++ (map f (take i xs) ++ a ∷ [])) (same ∙ ap f is)
    ∙ ap (λ a. front ++ a) (sym (map-append f (take i xs) (get_or xs i x ∷ [])))
    ∙ ap (λ a. front ++ map f a) (sym (take_more xs i x here))

-- a fold over one element more is one step from the fold over those before it
pub folded : {P Q R : Type 0} (f : R → Q → R) (r : R) (view : P → Q) (xs : List P) (i : ℕ) (x : P) → i < length xs → x ≡ get_or xs i x
    → fold f r (map view (take (i + 1) xs)) ≡ f (fold f r (map view (take i xs))) (view x)
folded f r view xs i x here is =
    ap (λ a. fold f r (map view a)) (take_more xs i x here)
    ∙ ap (fold f r) (map-append view (take i xs) (get_or xs i x ∷ []))
    ∙ fold-append f r (map view (take i xs)) (view (get_or xs i x) ∷ [])
    ∙ ap (λ y. f (fold f r (map view (take i xs))) (view y)) (sym is)
