-- Places that have their masks, from the first on.
use Rattle.std.proofs.Common.{◌≢◌, ℕ, ◌+◌, ◌<◌, List, length, slice_index_or, set, arith, get_or-set_other, get_or-set_same, below_more}
use Rattle.pdl_rules.specs.Places.{Guard}
use Rattle.pdl_paths.specs.declared.place.Place.{Place}
use Rattle.pdl_paths.specs.Masks.{IsMasked}

-- with the mask of one place more set, the places up to it have their masks
pub one_masked : (gs : List Guard) (ps : List Place) (i : ℕ) (p : Place) → i < length ps
    → ((k : ℕ) (d : Place) → k < i → IsMasked gs (slice_index_or ps k d)) → IsMasked gs p
    → (k : ℕ) (d : Place) → k < i + 1 → IsMasked gs (slice_index_or (set ps i p) k d)
one_masked gs ps i p here before masked k d below =
    below_more (λ j. IsMasked gs (slice_index_or (set ps i p) j d)) i
    (λ j first. let ne : j ≢ i = omega arith in rw (get_or-set_other ps i j p d ne) (before j d first))
    (rw (get_or-set_same ps i p d here) masked)
    k below
