-- Cells whose operands are all constants.
use Rattle.std.specs.Prelude.{◌≡◌, ℕ, ◌<◌, Bool, true, false, ◌&&◌, List, length, slice_index_or}
use Rattle.pdl_net.specs.declared.Net.{Net}
use Rattle.pdl_net.specs.declared.Net.TheVariants.{Input, Reg as RegNet, Cell as CellNet}
use Rattle.pdl_net.specs.declared.Cell.{Cell}
use Rattle.pdl_net.specs.declared.Cell.TheVariants.{Const, Not, Bin, Mux, Slice, Cat, Rep, Read}

-- a cell is a constant
abbrev pub is_const : Cell → Bool
is_const (Const w v) = true
is_const (Not a) = false
is_const (Bin op a b) = false
is_const (Mux c a b) = false
is_const (Slice a high low) = false
is_const (Cat a b) = false
is_const (Rep k a) = false
is_const (Read m a) = false

-- the cell of this number
abbrev pub cell_in : List Cell → ℕ → Cell
cell_in cells k = slice_index_or cells k (Const 0 0)

-- among these cells, a net is a constant
abbrev pub is_constant : List Cell → Net → Bool
is_constant cells (Input i) = false
is_constant cells (RegNet r) = false
is_constant cells (CellNet k) = is_const (cell_in cells k)

-- all operands of a cell are constants, and it has some; an array read is left out
abbrev pub is_foldable : List Cell → Cell → Bool
is_foldable cells (Const w v) = false
is_foldable cells (Not a) = is_constant cells a
is_foldable cells (Bin op a b) = is_constant cells a && is_constant cells b
is_foldable cells (Mux c a b) = is_constant cells c && (is_constant cells a && is_constant cells b)
is_foldable cells (Slice a high low) = is_constant cells a
is_foldable cells (Cat a b) = is_constant cells a && is_constant cells b
is_foldable cells (Rep k a) = is_constant cells a
is_foldable cells (Read m a) = false

-- no cell is left that could be a constant
pub record AreFolded (cells : List Cell) : Type 0 where
  pub each : (k : ℕ) → k < length cells → is_foldable cells (cell_in cells k) ≡ false
