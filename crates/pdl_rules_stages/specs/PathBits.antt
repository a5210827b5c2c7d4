-- Paths by their bits, and places with masks of guards.
use Rattle.std.specs.Prelude.{◌≡◌, ℕ, ◌<◌, ◌≤◌, ◌^◌, true, List, length}
use Rattle.pdl_rules.specs.Places.{Guard}
use Rattle.pdl_paths.specs.declared.place.Place as r_place
use Rattle.pdl_paths.specs.Masks.{AreMasked, are_distinct, path_of}

-- at most ten guards, each once, and places with their masks
pub record HavePaths (gs : List Guard) (places : List r_place.Place) : Type 0 where
  pub few : length gs ≤ 10
  pub distinct : are_distinct gs ≡ true
  pub masks : AreMasked gs places

-- these are the bits of a path of the guards
pub record IsPath (gs path : List Guard) (bits : ℕ) : Type 0 where
  pub within : bits < 2 ^ length gs
  pub same : path ≡ path_of gs bits
