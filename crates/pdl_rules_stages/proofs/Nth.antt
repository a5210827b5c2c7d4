-- The k-th of some values, as others see it, and what stands before and after it.
use Rattle.std.proofs.Common.{◌≡◌, refl, sym, ap, ◌∙◌, ℕ, zero, suc, ◌+◌, ◌<◌, ◌≤◌, List, [], ◌∷◌, ◌++◌, map, take, drop, length, get_or, slice_get, Some, arith}
use Rattle.std.proofs.lemmas.Option.{same_Some}

-- what stands in a list from its k-th item on is that item and what stands after it
pub dropped : {Q : Type 0} (xs : List Q) (k : ℕ) (x : Q) → slice_get xs k ≡ Some x → drop k xs ≡ x ∷ drop (k + 1) xs
dropped xs k x e =
    let one : suc k ≡ k + 1 = omega arith in
    at xs k e ∙ ap (λ n. x ∷ drop n xs) one
  where
    at : (ys : List _) (n : ℕ) → slice_get ys n ≡ Some x → drop n ys ≡ x ∷ drop (suc n) ys
    at [] n i = cc
    at (y ∷ ys) zero i = ap (λ z. z ∷ ys) (same_Some y x i)
    at (y ∷ ys) (suc n) i = at ys n i

-- what stands in a list up to its k-th item is what stands before it and that item
pub taken : {Q : Type 0} (xs : List Q) (k : ℕ) (x : Q) → slice_get xs k ≡ Some x → take (k + 1) xs ≡ take k xs ++ x ∷ []
taken xs k x e =
    let one : k + 1 ≡ suc k = omega arith in
    ap (λ n. take n xs) one ∙ at xs k e
  where
    at : (ys : List _) (n : ℕ) → slice_get ys n ≡ Some x → take (suc n) ys ≡ take n ys ++ x ∷ []
    at [] n i = cc
    at (y ∷ ys) zero i = ap (λ z. z ∷ []) (same_Some y x i)
    at (y ∷ ys) (suc n) i = ap (λ zs. y ∷ zs) (at ys n i)

-- a list is its first k elements, the k-th one, and those after it
pub split : {Q : Type 0} (xs : List Q) (k : ℕ) (x : Q) → slice_get xs k ≡ Some x → xs ≡ take k xs ++ x ∷ drop (k + 1) xs
split xs k x e =
    let one : suc k ≡ k + 1 = omega arith in
    at xs k e ∙ ap (λ n. take k xs ++ x ∷ drop n xs) one
  where
    at : (ys : List _) (n : ℕ) → slice_get ys n ≡ Some x → ys ≡ take n ys ++ x ∷ drop (suc n) ys
    at [] n i = cc
    at (y ∷ ys) zero i = ap (λ z. z ∷ ys) (same_Some y x i)
    at (y ∷ ys) (suc n) i = ap (λ zs. y ∷ zs) (at ys n i)

none_left : {Q : Type 0} (ys : List Q) → length ys ≤ 0 → ys ≡ []
none_left [] m = refl
none_left (y ∷ ys) m = absurd (omega arith)

-- nothing is left of a list after as many elements as it has, or more
pub dropped_all : {Q : Type 0} (xs : List Q) (k : ℕ) → length xs ≤ k → drop k xs ≡ []
dropped_all xs zero l = none_left xs l
dropped_all [] (suc k) l = refl
dropped_all (y ∷ ys) (suc k) l = dropped_all ys k (omega arith)

-- the first k elements of a list are at most k in number
pub short_take : {Q : Type 0} (xs : List Q) (k : ℕ) → length (take k xs) ≤ k
short_take xs zero = omega arith
short_take [] (suc k) = omega arith
short_take (y ∷ ys) (suc k) = let rest = short_take ys k in omega arith

-- the first k values, each as others see it, are the first k of all so seen
pub viewed : {P Q : Type 0} (view : P → Q) (ps : List P) (k : ℕ) → map view (take k ps) ≡ take k (map view ps)
viewed view ps zero = refl
viewed view [] (suc k) = refl
viewed view (p ∷ ps) (suc k) = ap (λ xs. view p ∷ xs) (viewed view ps k)

ahead_suc : {P Q : Type 0} (view : P → Q) (ps : List P) (k : ℕ) (p : P)
    → k < length ps → p ≡ get_or ps k p → map view (drop k ps) ≡ view p ∷ map view (drop (suc k) ps)
ahead_suc view [] k p l e = absurd (omega arith)
ahead_suc view (q ∷ ps) zero p l e = ap (λ y. view y ∷ map view ps) (sym e)
ahead_suc view (q ∷ ps) (suc k) p l e = ahead_suc view ps k p (omega arith) e

-- the values from the k-th on, as others see them, are the k-th one so seen and those after it
pub ahead : {P Q : Type 0} (view : P → Q) (ps : List P) (k : ℕ) (p : P)
    → k < length ps → p ≡ get_or ps k p → map view (drop k ps) ≡ view p ∷ map view (drop (k + 1) ps)
ahead view ps k p l e =
    let one : suc k ≡ k + 1 = omega arith in
    ahead_suc view ps k p l e ∙ ap (λ n. view p ∷ map view (drop n ps)) one
