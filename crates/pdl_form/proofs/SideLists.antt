-- The first side of a fork in lists of branches.
use Rattle.std.proofs.Common.{◌≡◌, refl, sym, ap, ap₂, ◌∙◌, ℕ, Bool, true, false, ◌||◌, ◌==◌, if◌then◌else◌, List, [], ◌∷◌, ◌++◌, Option, Some, None, is_some, append_assoc}
use Rattle.pdl_semantics.specs.Flat.{Branch}
use Rattle.pdl_semantics.specs.Stages.{sides_of, list_any}
use Rattle.pdl_semantics.proofs.Facts.{sides_append}
use Rattle.pdl_form.specs.Sides.{listed, first_of}

first_or : (xs ys : List Bool) → first_of (listed (first_of xs) ++ listed (first_of ys)) ≡ first_of (xs ++ ys)
first_or [] [] = refl
first_or [] (y ∷ ys) = refl
first_or (x ∷ xs) ys = refl

-- the first side of four lists of branches, of which each has one at most
pub first_of_four : (f : ℕ) (a b c d : List Branch) (w x y z inner outer whole : Option Bool)
    → listed w ≡ sides_of f a → listed x ≡ sides_of f b → listed y ≡ sides_of f c → listed z ≡ sides_of f d
    → inner ≡ first_of (listed w ++ listed x) → outer ≡ first_of (listed y ++ listed z) → whole ≡ first_of (listed inner ++ listed outer)
    → whole ≡ first_of (sides_of f (a ++ (b ++ (c ++ d))))
first_of_four f a b c d w x y z inner outer whole ew ex ey ez ei eo e =
    e
    ∙ ap₂ (λ i o. first_of (listed i ++ listed o))
    (ei ∙ ap₂ (λ l m. first_of (l ++ m)) ew ex ∙ ap first_of (sym (sides_append f a b)))
    (eo ∙ ap₂ (λ l m. first_of (l ++ m)) ey ez ∙ ap first_of (sym (sides_append f c d)))
    ∙ first_or (sides_of f (a ++ b)) (sides_of f (c ++ d))
    ∙ ap first_of (sym (sides_append f (a ++ b) (c ++ d)) ∙ ap (sides_of f) (append_assoc a b (c ++ d)))

-- there is a side just where one of the branches is the fork's
pub some_side : (f : ℕ) (bs : List Branch) → is_some (first_of (sides_of f bs)) ≡ list_any (λ (b : Branch). b.fork == f) bs
some_side f [] = refl
some_side f (b ∷ bs) = at (b.fork == f) (some_side f bs)
  where
    at : (t : Bool) → is_some (first_of (sides_of f bs)) ≡ list_any (λ (y : Branch). y.fork == f) bs
        → is_some (first_of ((if t then b.first ∷ [] else []) ++ sides_of f bs)) ≡ (t || list_any (λ (y : Branch). y.fork == f) bs)
    at true rest = refl
    at false rest = rest
