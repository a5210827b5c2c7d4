-- Cells of which no two are equal, and a map that tells where each stands.
use Rattle.std.specs.Prelude.{◌≡◌, ℕ, Bool, List, slice_get, Some}
use Rattle.std.specs.HashMap.{get}
use Rattle.pdl_net.specs.declared.Cell.{Cell}
use Rattle.pdl_build.specs.declared.distinct.DistinctCells.TheInside.{Inside}

-- the cells, each at its number
abbrev pub cells_of : Inside → List Cell
cells_of b = b.cells.items

-- the map tells the place of each cell, and of no other
pub record AreFound (eq : Cell → Cell → Bool) (b : Inside) : Type 0 where
  pub found : (k : ℕ) (g : Cell) → slice_get b.cells.items k ≡ Some g → get eq b.places g ≡ Some k
  pub only : (k : ℕ) (g : Cell) → get eq b.places g ≡ Some k → slice_get b.cells.items k ≡ Some g
