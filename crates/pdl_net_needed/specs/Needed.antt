-- What of a netlist is needed for what it shows.
use Rattle.std.specs.Prelude.{◌≡◌, ℕ, ◌<◌, Bool, true, false, IsTrue, List, [], ◌∷◌, ◌++◌, length, flat_map, slice_index_or, Contains}
use Rattle.pdl_net.specs.declared.Net.{Net}
use Rattle.pdl_net.specs.declared.Net.TheVariants.{Input, Reg as RegNet, Cell as CellNet}
use Rattle.pdl_net.specs.declared.Cell.{Cell}
use Rattle.pdl_net.specs.declared.Cell.TheVariants.{Const, Not, Bin, Mux, Slice, Cat, Rep, Read}
use Rattle.pdl_net.specs.declared.Dir.{Dir}
use Rattle.pdl_net.specs.declared.Dir.TheVariants.{In, Out}
use Rattle.pdl_net.specs.declared.WritePort.{WritePort}
use Rattle.pdl_net.specs.declared.Array.{Array}
use Rattle.pdl_net.specs.Circuit.{Circuit, reg_at}

-- the nets that a cell reads
abbrev pub reads_of : Cell → List Net
reads_of (Const w v) = []
reads_of (Not a) = a ∷ []
reads_of (Bin op a b) = a ∷ b ∷ []
reads_of (Mux x a b) = x ∷ a ∷ b ∷ []
reads_of (Slice a high low) = a ∷ []
reads_of (Cat a b) = a ∷ b ∷ []
reads_of (Rep k a) = a ∷ []
reads_of (Read m a) = a ∷ []

-- the net that a port shows, if it is an output
abbrev pub shown_by : Dir → List Net
shown_by In = []
shown_by (Out x) = x ∷ []

-- the nets that a write port reads
abbrev pub read_by : WritePort → List Net
read_by p = p.enable ∷ p.addr ∷ p.value ∷ []

-- the nets that the write ports of an array read
abbrev pub written_from : Array → List Net
written_from a = flat_map read_by a.writes

-- the nets that outputs show and write ports read
abbrev pub used_outside : Circuit → List Net
used_outside c = flat_map (λ p. shown_by p.dir) c.ports ++ flat_map written_from c.arrays

-- the cell past the last one
abbrev pub no_cell : Cell
no_cell = Const 0 0

-- the k-th cell
abbrev pub cell_at : Circuit → ℕ → Cell
cell_at c k = slice_index_or c.cells k no_cell

-- the nets that a net takes its value from: of a register the next value, of a cell what it reads
abbrev pub sources : Circuit → Net → List Net
sources c (Input i) = []
sources c (RegNet r) = (reg_at c r).next ∷ []
sources c (CellNet k) = reads_of (cell_at c k)

-- an output shows the net, a write port reads it, a needed register takes it next, or a needed cell reads it
pub data IsNeeded (c : Circuit) : Net → Type 0 where
  outside : {x : Net} → Contains (used_outside c) x → IsNeeded c x
  inside : {x y : Net} → IsNeeded c x → Contains (sources c x) y → IsNeeded c y

-- which registers and which cells are kept
pub record Choice : Type 0 where
  pub regs : List Bool
  pub cells : List Bool

-- whether a net is kept; the inputs are
abbrev pub is_kept : Choice → Net → Bool
is_kept k (Input i) = true
is_kept k (RegNet r) = slice_index_or k.regs r false
is_kept k (CellNet j) = slice_index_or k.cells j false

-- a net is kept, or is an input
abbrev pub IsKept : Choice → Net → Type 0
IsKept k x = IsTrue (is_kept k x)

-- of the registers and cells exactly the needed ones are kept
pub record KeepsNeeded (c : Circuit) (k : Choice) : Type 0 where
  pub reg_count : length k.regs ≡ length c.regs
  pub cell_count : length k.cells ≡ length c.cells
  pub needed : (x : Net) → IsNeeded c x → IsKept k x
  pub regs : (r : ℕ) → IsKept k (RegNet r) → IsNeeded c (RegNet r)
  pub cells : (j : ℕ) → IsKept k (CellNet j) → IsNeeded c (CellNet j)

-- each register and each cell is needed
pub record AllNeeded (c : Circuit) : Type 0 where
  pub regs : (r : ℕ) → r < length c.regs → IsNeeded c (RegNet r)
  pub cells : (j : ℕ) → j < length c.cells → IsNeeded c (CellNet j)
