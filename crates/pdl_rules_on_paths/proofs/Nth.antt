-- The k-th of some places, and the places round it.
use Rattle.std.proofs.Common.{◌≡◌, refl, sym, ap, ◌∙◌, ℕ, zero, suc, ◌+◌, ◌<◌, ◌≤◌, List, [], ◌∷◌, ◌++◌, map, take, drop, length, get_or, slice_get, Some, None, arith}
use Rattle.std.proofs.lemmas.Option.{same_Some}

-- the k-th of some values, each as others see it, is the k-th value so seen
pub nth : {P Q : Type 0} (view : P → Q) (ps : List P) (k : ℕ) (p : P)
    → k < length ps → p ≡ get_or ps k p → slice_get (map view ps) k ≡ Some (view p)
nth view [] k p l e = absurd (omega arith)
nth view (q ∷ ps) zero p l e = ap (λ y. Some (view y)) (sym e)
nth view (q ∷ ps) (suc k) p l e = nth view ps k p (omega arith) e

-- a list is its first k elements, the k-th one, and those after it
pub split : {Q : Type 0} (xs : List Q) (k : ℕ) (x : Q) → slice_get xs k ≡ Some x → xs ≡ take k xs ++ x ∷ drop (suc k) xs
split [] k x e = cc
split (y ∷ ys) zero x e = ap (λ z. z ∷ ys) (same_Some y x e)
split (y ∷ ys) (suc k) x e = ap (λ zs. y ∷ zs) (split ys k x e)

-- one element more than the first k are these and the k-th one
pub taken : {Q : Type 0} (xs : List Q) (k : ℕ) (x : Q) → slice_get xs k ≡ Some x → take (suc k) xs ≡ take k xs ++ x ∷ []
taken [] k x e = cc
taken (y ∷ ys) zero x e = ap (λ z. z ∷ []) (same_Some y x e)
taken (y ∷ ys) (suc k) x e = ap (λ zs. y ∷ zs) (taken ys k x e)

-- the first k elements, with the k-th one after them, are the first k + 1
pub take_next : {Q : Type 0} (xs : List Q) (k : ℕ) (x : Q) → slice_get xs k ≡ Some x → take k xs ++ x ∷ [] ≡ take (k + 1) xs
take_next xs k x e =
    let one : suc k ≡ k + 1 = omega arith in
    sym (taken xs k x e) ∙ ap (λ n. take n xs) one

-- the first k elements of a list that has a k-th one are k in number
pub taken_length : {Q : Type 0} (xs : List Q) (k : ℕ) (x : Q) → slice_get xs k ≡ Some x → k ≡ length (take k xs)
taken_length [] k x e = cc
taken_length (y ∷ ys) zero x e = refl
taken_length (y ∷ ys) (suc k) x e = ap suc (taken_length ys k x e)

-- from the number of values on there is none, as others see it
pub past_end : {P Q : Type 0} (view : P → Q) (ps : List P) (k : ℕ) → length ps ≤ k → slice_get (map view ps) k ≡ None
past_end view [] k l = refl
past_end view (q ∷ ps) zero l = absurd (omega arith)
past_end view (q ∷ ps) (suc k) l = past_end view ps k (omega arith)

-- a list has no element at the number that is its length
pub past_last : {Q : Type 0} (xs : List Q) (k : ℕ) → k ≡ length xs → slice_get xs k ≡ None
past_last [] k e = refl
past_last (y ∷ ys) zero e = absurd (omega arith)
past_last (y ∷ ys) (suc k) e = past_last ys k (omega arith)
