-- What a search for a place by its number tells of the masks of the places searched.
use Rattle.std.specs.Prelude.{◌≡◌, ℕ, ◌+◌, ◌<◌, List, length, slice_index_or}
use Rattle.pdl_paths.specs.declared.mask.Mask.{Mask}
use Rattle.pdl_paths.specs.declared.numbered.Found.{Found}
use Rattle.pdl_paths.specs.declared.numbered.Found.TheVariants.{Here, After}
use Rattle.pdl_paths.specs.Masks.{everywhere}

-- the mask that was found is the n-th one, or all masks stand before the n-th and this many numbers are left after them
abbrev pub Tells : List Mask → ℕ → Found → Type 0
Tells masks n (Here mask) = (n < length masks) × (mask ≡ slice_index_or masks n everywhere)
Tells masks n (After left) = n ≡ length masks + left
