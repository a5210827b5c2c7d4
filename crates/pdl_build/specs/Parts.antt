-- A builder seen as a circuit.
use Rattle.std.specs.Prelude.{◌≡◌, ℕ, ◌<◌, true, false, List, length, slice_index_or}
use Rattle.pdl_net.specs.declared.Net.TheVariants.{Cell as CellNet}
use Rattle.pdl_net.specs.Circuit.{Circuit, inputs_of}
use Rattle.pdl_net.specs.Signal.{Signal}
use Rattle.pdl_net.specs.Meaning.{signal}
use Rattle.pdl_net.specs.Well.{IsWell}
use Rattle.pdl_build.specs.FoldedCells.{AreFolded}
use Rattle.pdl_build.specs.Rules.{IsBelow}
use Rattle.pdl_build.specs.declared.Extent.{Extent}
use Rattle.pdl_build.specs.declared.Builder.TheInside.{Inside}

-- the circuit of a builder's ports, registers, arrays and cells
abbrev pub circuit_of_parts : Inside → Circuit
circuit_of_parts b = record { ports = b.ports.items; regs = b.regs.items; arrays = b.arrays.items; cells = b.cells }

-- what is known of a signal is true of it
pub record IsExtent (f : Signal) (n : Extent) : Type 0 where
  pub width : n.width ≡ f.width
  pub below : n.is_below ≡ true → IsBelow f

-- what is known where there is no cell: no bits, and nothing of its value
abbrev pub no_cell : Extent
no_cell = record { width = 0; is_below = false }

-- what is known of the cell of this number
abbrev pub extent_in : List Extent → ℕ → Extent
extent_in ns k = slice_index_or ns k no_cell

-- these are the widths of the inputs, and what is known of the cells
pub record HaveExtents (c : Circuit) (ins : List ℕ) (ns : List Extent) : Type 0 where
  pub inputs : ins ≡ inputs_of c
  pub count : length ns ≡ length c.cells
  pub cells : (k : ℕ) → k < length c.cells → IsExtent (signal c (CellNet k)) (extent_in ns k)

-- the circuit fits, no cell could be a constant, and what is known of inputs and cells is kept beside them
pub record IsBuilt (b : Inside) : Type 0 where
  pub well : IsWell (circuit_of_parts b)
  pub extents : HaveExtents (circuit_of_parts b) b.input_widths.items b.extents.items
  pub folded : AreFolded b.cells
