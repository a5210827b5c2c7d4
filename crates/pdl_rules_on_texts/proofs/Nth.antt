-- The k-th of some places, and the places round it.
use Rattle.std.proofs.Common.{◌≡◌, refl, ap, ◌∙◌, ℕ, zero, suc, ◌+◌, ◌<◌, ◌≤◌, List, [], ◌∷◌, ◌++◌, map, take, length, slice_get, Some, arith}

-- the first k of some places are all of them, where there are no more than k
pub all_taken : {P Q : Type 0} (view : P → Q) (ps : List P) (k : ℕ) → length ps ≤ k → take k (map view ps) ≡ map view ps
all_taken view [] zero l = refl
all_taken view [] (suc k) l = refl
all_taken view (q ∷ ps) zero l = absurd (omega arith)
all_taken view (q ∷ ps) (suc k) l = ap (λ xs. view q ∷ xs) (all_taken view ps k (omega arith))

-- a list has a k-th item
pub record Kth {Q : Type 0} (xs : List Q) (k : ℕ) : Type 0 where
  pub item : Q
  pub is : slice_get xs k ≡ Some item

-- some places have a k-th one, as others see it, where there are more than k
pub kth : {P Q : Type 0} (view : P → Q) (ps : List P) (k : ℕ) → k < length ps → Kth (map view ps) k
kth view [] k l = absurd (omega arith)
kth view (q ∷ ps) zero l = record { item = view q; is = refl }
kth view (q ∷ ps) (suc k) l = let h = kth view ps k (omega arith) in record { item = h.item; is = h.is }
