-- Of a list of no requests each one is none.
use Rattle.std.proofs.Common.{◌≡◌, refl, ℕ, zero, suc, List, [], ◌∷◌, slice_index_or}
use Rattle.pdl_semantics.specs.Flat.{Mem}
use Rattle.pdl_semantics.specs.Machine.{NoRequest}
use Rattle.pdl_semantics.specs.Cycle.{for_mems}

-- each memory of a list without requests has none, and one past the last too
pub none_requested : (k m : ℕ) (xs : List Mem) → slice_index_or (for_mems (λ m. NoRequest) k xs) m NoRequest ≡ NoRequest
none_requested k m [] = refl
none_requested k zero (x ∷ xs) = refl
none_requested k (suc m) (x ∷ xs) = none_requested (suc k) m xs
