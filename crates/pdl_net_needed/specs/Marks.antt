-- Marks of registers and cells.
use Rattle.std.specs.Prelude.{◌≡◌, ℕ, ◌<◌, true, false, Bool, List, length, replicate, slice_index, slice_set}
use Rattle.pdl_net.specs.declared.Net.{Net}
use Rattle.pdl_net.specs.declared.Net.TheVariants.{Input, Reg as RegNet, Cell as CellNet}
use Rattle.pdl_net_needed.specs.Needed.{Choice}
use Rattle.pdl_net_needed.specs.Pruned.{kept_before}

-- a net has a mark, or is an input
abbrev pub IsWithin : Choice → Net → Type 0
IsWithin k (Input i) = Unit {0}
IsWithin k (RegNet r) = r < length k.regs
IsWithin k (CellNet j) = j < length k.cells

-- none of so many registers and cells is kept
abbrev pub none_kept : ℕ → ℕ → Choice
none_kept regs cells = record { regs = replicate regs false; cells = replicate cells false }

-- a net is kept too
abbrev pub with_kept : Choice → Net → Choice
with_kept k (Input i) = k
with_kept k (RegNet r) = record { regs = slice_set k.regs r true; cells = k.cells }
with_kept k (CellNet j) = record { regs = k.regs; cells = slice_set k.cells j true }

-- how many kept ones stand before each place
pub record AreNumbers (bs : List Bool) (ns : List ℕ) : Type 0 where
  pub count : length ns ≡ length bs
  pub each : (i : ℕ) → i < length bs → slice_index ns i ≡ kept_before bs i
