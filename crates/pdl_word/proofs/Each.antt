-- Facts on lists of which each element has a property.
use Rattle.std.proofs.Common.{◌≡◌, ℕ, zero, suc, ◌<◌, List, [], ◌∷◌, ◌++◌, length, map, flat_map, get_or, All, Some, refl, subst, arith}
use Rattle.std.specs.List.{slice_get}
use Rattle.pdl_word.specs.Each.{Each}

-- what holds of each element of two lists holds of each of both joined
pub each_append : {A : Type 0} (P : A → Type 0) (xs ys : List A) → Each P xs → Each P ys → Each P (xs ++ ys)
each_append P [] ys h k = k
each_append P (x ∷ xs) ys h k = (h.0, each_append P xs ys h.1 k)

-- what holds of each element, and of one more, holds of each with that one at the end
pub each_push : {A : Type 0} (P : A → Type 0) (xs : List A) (x : A) → Each P xs → P x → Each P (xs ++ x ∷ [])
each_push P xs x h k = each_append P xs (x ∷ []) h (k, tt)

-- what holds of each element of joined lists holds of each of the first
pub each_front : {A : Type 0} (P : A → Type 0) (xs ys : List A) → Each P (xs ++ ys) → Each P xs
each_front P [] ys h = tt
each_front P (x ∷ xs) ys h = (h.0, each_front P xs ys h.1)

-- what holds of each element of joined lists holds of each of the second
pub each_back : {A : Type 0} (P : A → Type 0) (xs ys : List A) → Each P (xs ++ ys) → Each P ys
each_back P [] ys h = h
each_back P (x ∷ xs) ys h = each_back P xs ys h.1

-- what holds of the image of each element holds of each element of the mapped list
pub each_mapped : {A B : Type 0} (P : B → Type 0) (f : A → B) (xs : List A) → Each (λ x. P (f x)) xs → Each P (map f xs)
each_mapped P f [] h = tt
each_mapped P f (x ∷ xs) h = (h.0, each_mapped P f xs h.1)

-- what holds of each element of a mapped list holds of the image of each element
pub each_unmapped : {A B : Type 0} (P : B → Type 0) (f : A → B) (xs : List A) → Each P (map f xs) → Each (λ x. P (f x)) xs
each_unmapped P f [] h = tt
each_unmapped P f (x ∷ xs) h = (h.0, each_unmapped P f xs h.1)

-- what holds of each element of the lists of all elements holds of each of these lists joined
pub each_flat : {A B : Type 0} (P : B → Type 0) (f : A → List B) (xs : List A) → Each (λ x. Each P (f x)) xs → Each P (flat_map f xs)
each_flat P f [] h = tt
each_flat P f (x ∷ xs) h = each_append P (f x) (flat_map f xs) h.0 (each_flat P f xs h.1)

-- a property of each element gives each property that follows from it
pub each_weaker : {A : Type 0} (P Q : A → Type 0) → ((x : A) → P x → Q x) → (xs : List A) → Each P xs → Each Q xs
each_weaker P Q step [] h = tt
each_weaker P Q step (x ∷ xs) h = (step x h.0, each_weaker P Q step xs h.1)

-- what holds of the element at each place holds of each element
pub each_from_all : {A : Type 0} (P : A → Type 0) (xs : List A) → All P xs → Each P xs
each_from_all P [] h = tt
each_from_all P (x ∷ xs) h = (h 0 x (omega arith), each_from_all P xs (λ k d l. h (suc k) d (omega arith)))

-- the element of a number has it
pub each_get : {A : Type 0} (P : A → Type 0) (xs : List A) (k : ℕ) (d : A) → k < length xs → Each P xs → P (get_or xs k d)
each_get P [] k d l h = absurd (omega (arith, l))
each_get P (x ∷ xs) zero d l h = h.0
each_get P (x ∷ xs) (suc k) d l h = each_get P xs k d (omega (arith, l)) h.1

-- the element that is there at a number has it
pub each_got : {A : Type 0} (P : A → Type 0) (xs : List A) (k : ℕ) (x : A) → Each P xs → slice_get xs k ≡ Some x → P x
each_got P [] k x h e = absurd (cc e)
each_got P (y ∷ ys) zero x h e = let i : y ≡ x = cc in subst P i h.0
each_got P (y ∷ ys) (suc k) x h e = each_got P ys k x h.1 e

-- what holds of each element that is there at a number holds of each
pub each_from_get : {A : Type 0} (P : A → Type 0) (xs : List A) → ((i : ℕ) (x : A) → slice_get xs i ≡ Some x → P x) → Each P xs
each_from_get P [] h = tt
each_from_get P (x ∷ xs) h = (h zero x refl, each_from_get P xs (λ i y e. h (suc i) y e))
