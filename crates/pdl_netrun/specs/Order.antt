-- Where the value of each net stands in one list, and the order in which cells get theirs.
use Rattle.std.specs.Prelude.{◌≡◌, ℕ, ◌+◌, ◌<◌, ◌⊎◌, List, length, slice_index, slice_index_or, slice_set}
use Rattle.pdl_net.specs.declared.Net.{Net}
use Rattle.pdl_net.specs.declared.Net.TheVariants.{Input, Reg as RegNet, Cell as CellNet}
use Rattle.pdl_net.specs.declared.Cell.{Cell}
use Rattle.pdl_net.specs.declared.Cell.TheVariants as cell
use Rattle.pdl_net.specs.Circuit.{Circuit, circuit_of, inputs_of}
use Rattle.pdl_net.specs.Meaning.{IsThereAt}
use Rattle.pdl_netrun.specs.declared.order.CellOrder.{CellOrder}

-- PLACES

-- the place of the first cell: inputs and registers stand before
abbrev pub first_place : Circuit → ℕ
first_place c = length (inputs_of c) + length c.regs

-- the place of a net, where the cells have these
abbrev pub place : Circuit → List ℕ → Net → ℕ
place c ps (Input i) = i
place c ps (RegNet r) = length (inputs_of c) + r
place c ps (CellNet k) = slice_index ps k

-- the place of a cell that has none yet
abbrev pub unplaced : ℕ
unplaced = 4294967295

-- a net that is there has a place before this one
pub record IsPlaced (c : Circuit) (ps : List ℕ) (n : ℕ) (x : Net) : Type 0 where
  pub there : IsThereAt c (length c.cells) x
  pub early : place c ps x < n

-- what holds of all nets that a cell reads
abbrev pub Reads : (Net → Type 0) → Cell → Type 0
Reads P (cell.Const w v) = Unit {0}
Reads P (cell.Not a) = P a
Reads P (cell.Bin o a b) = P a × P b
Reads P (cell.Mux x a b) = P x × P a × P b
Reads P (cell.Slice a high low) = P a
Reads P (cell.Cat a b) = P a × P b
Reads P (cell.Rep k a) = P a
Reads P (cell.Read m a) = P a

-- the place of a net is before this one
abbrev pub IsEarly : Circuit → List ℕ → ℕ → Net → Type 0
IsEarly c ps n x = place c ps x < n

-- ORDERS

-- the k-th cell
abbrev pub cell_at : Circuit → ℕ → Cell
cell_at c k = slice_index_or c.cells k (cell.Const 0 0)

-- a cell has this place, and all that it reads has an earlier one
pub record IsTurn (c : Circuit) (ps : List ℕ) (k at : ℕ) : Type 0 where
  pub there : k < length c.cells
  pub own : slice_index ps k ≡ at
  pub reads : Reads (IsEarly c ps at) (cell_at c k)

-- a cell has the place of its turn in the order
pub record HasTurn (c : Circuit) (order ps : List ℕ) (k : ℕ) : Type 0 where
  pub turn : ℕ
  pub within : turn < length order
  pub own : slice_index ps k ≡ first_place c + turn
  pub same : slice_index order turn ≡ k

-- cells in the order of their places; each of the others has none
pub record IsOrder (c : Circuit) (order ps : List ℕ) : Type 0 where
  pub count : length ps ≡ length c.cells
  pub room : first_place c + length order < unplaced
  pub turns : (j : ℕ) → j < length order → IsTurn c ps (slice_index order j) (first_place c + j)
  pub known : (k : ℕ) → k < length c.cells → (slice_index ps k ≡ unplaced) ⊎ HasTurn c order ps k

-- all cells have a place before this one
abbrev pub AllEarly : Circuit → List ℕ → ℕ → Type 0
AllEarly c ps n = (k : ℕ) → k < length c.cells → slice_index ps k < n

-- OF A NETLIST

-- the circuit of the netlist whose cells are being put in order
abbrev pub order_circuit : CellOrder → Circuit
order_circuit o = circuit_of o.net.now

-- of a netlist whose cells are being put in order, the place of the first register, the next place and the order are right
pub record IsOrderOf (o : CellOrder) : Type 0 where
  pub regs : o.regs ≡ length (inputs_of (order_circuit o))
  pub next : o.next ≡ first_place (order_circuit o) + length o.cells.items
  pub arrays : length o.net.now.arrays < unplaced
  pub order : IsOrder (order_circuit o) o.cells.items o.places.items

-- all cells of the netlist have a place before the next one to be given
abbrev pub AllPlaced : CellOrder → Type 0
AllPlaced o = AllEarly (order_circuit o) o.places.items o.next

-- the place of a net, by the places that an order has given so far
abbrev pub place_in : CellOrder → Net → ℕ
place_in o x = place (order_circuit o) o.places.items x

-- a net is an input, a register or a cell of the order's netlist
abbrev pub IsNetThere : CellOrder → Net → Type 0
IsNetThere o x = IsThereAt (order_circuit o) (length o.net.now.cells) x

-- all nets that a cell reads are in the order's netlist
abbrev pub AreThere : CellOrder → Cell → Type 0
AreThere o g = Reads (IsNetThere o) g

-- all nets that a cell reads have a place before the next one to be given
abbrev pub AreEarly : CellOrder → Cell → Type 0
AreEarly o g = Reads (IsEarly (order_circuit o) o.places.items o.next) g

-- the k-th cell of the order's netlist
abbrev pub cell_of : CellOrder → ℕ → Cell
cell_of o k = cell_at (order_circuit o) k

-- the netlist of an order is as it was
abbrev pub IsSameNet : CellOrder → CellOrder → Type 0
IsSameNet old new = new.net.now ≡ old.net.now

-- a cell has got the next place
pub record IsNextOf (old : CellOrder) (k : ℕ) (new : CellOrder) : Type 0 where
  pub net : new.net.now ≡ old.net.now
  pub places : new.places.items ≡ slice_set old.places.items k old.next
  pub next : new.next ≡ old.next + 1
