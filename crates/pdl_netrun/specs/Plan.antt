-- The plan of a circuit: what each cell and each write port reads, where the cells have these places.
use Rattle.std.specs.Prelude.{◌≡◌, ℕ, suc, ◌+◌, ◌-◌, ◌<◌, List, [], ◌∷◌, ◌++◌, map, length, slice_index}
use Rattle.pdl_net.specs.declared.Net.{Net}
use Rattle.pdl_net.specs.declared.Cell.{Cell}
use Rattle.pdl_net.specs.declared.Cell.TheVariants as cell
use Rattle.pdl_net.specs.declared.WritePort.{WritePort}
use Rattle.pdl_net.specs.declared.Array.{Array}
use Rattle.pdl_net.specs.Circuit.{Circuit, State}
use Rattle.pdl_net.specs.Meaning.{signal}
use Rattle.pdl_netrun.specs.declared.operation.CellKind.{CellKind}
use Rattle.pdl_netrun.specs.declared.operation.CellOperands.{CellOperands}
use Rattle.pdl_netrun.specs.declared.order.CellOrder.{CellOrder}
use Rattle.pdl_netrun.specs.declared.writes.PlannedWrite.{PlannedWrite}
use Rattle.pdl_netrun.specs.Kinds.{cell_kind}
use Rattle.pdl_netrun.specs.Steps.{Step, mask_within, reading_at}
use Rattle.pdl_netrun.specs.Order.{place, IsPlaced, IsNetThere, cell_at}

-- STEPS

-- the step of a cell of this kind, with what it reads
abbrev pub step_of : CellKind → CellOperands → Step
step_of k o = record { kind = k; operands = o }

-- what a cell reads
abbrev pub cell_operands : Circuit → List ℕ → Cell → CellOperands
cell_operands c ps (cell.Const w v) = reading_at 0 0
cell_operands c ps (cell.Not a) = record { places = place c ps a ∷ place c ps a ∷ []; selector = 0; width = (signal c a).width; high = 0; low = 0; count = 0; mask = mask_within (signal c a).width }
cell_operands c ps (cell.Bin o a b) =
    record { places = place c ps a ∷ place c ps b ∷ []; selector = 0; width = (signal c a).width; high = 0; low = 0; count = 0; mask = mask_within (signal c a).width }
cell_operands c ps (cell.Mux x a b) = record { places = place c ps b ∷ place c ps a ∷ []; selector = place c ps x; width = 0; high = 0; low = 0; count = 0; mask = 0 }
cell_operands c ps (cell.Slice a high low) = record { places = place c ps a ∷ place c ps a ∷ []; selector = 0; width = 0; high = high; low = low; count = 0; mask = mask_within (high - low + 1) }
cell_operands c ps (cell.Cat a b) = record { places = place c ps a ∷ place c ps b ∷ []; selector = 0; width = 0; high = 0; low = (signal c b).width; count = 0; mask = 0 }
cell_operands c ps (cell.Rep k a) = record { places = place c ps a ∷ place c ps a ∷ []; selector = 0; width = (signal c a).width; high = 0; low = 0; count = k; mask = mask_within (signal c a).width }
cell_operands c ps (cell.Read m a) = record { places = place c ps a ∷ place c ps a ∷ []; selector = m; width = 0; high = 0; low = 0; count = 0; mask = 0 }

-- what a cell does
abbrev pub step_of_cell : Circuit → List ℕ → Cell → Step
step_of_cell c ps g = step_of (cell_kind g) (cell_operands c ps g)

-- what a cell's place holds before the first cycle: a constant's value, which stands in every cycle
abbrev pub held_at_start : Cell → ℕ
held_at_start (cell.Const w v) = v
held_at_start _ = 0

-- WRITES

-- a write port of array m, with the places of its nets
abbrev pub planned_write : Circuit → List ℕ → ℕ → WritePort → PlannedWrite
planned_write c ps m p = record { array = m; enable = place c ps p.enable; addr = place c ps p.addr; value = place c ps p.value }

-- the write ports of arrays of which the first has the number m, with the places of their nets
abbrev pub writes_from : Circuit → List ℕ → ℕ → List Array → List PlannedWrite
writes_from c ps m [] = []
writes_from c ps m (a ∷ rest) = map (planned_write c ps m) a.writes ++ writes_from c ps (suc m) rest

-- the write ports of all arrays of a circuit, with the places of their nets
abbrev pub planned_writes : Circuit → List ℕ → List PlannedWrite
planned_writes c ps = writes_from c ps 0 c.arrays

-- the nets of a write port are there
pub record IsWriteThere (o : CellOrder) (p : WritePort) : Type 0 where
  pub enable : IsNetThere o p.enable
  pub addr : IsNetThere o p.addr
  pub value : IsNetThere o p.value

-- VALUES

-- the list has the values of the nets with a place before this one, in a state
pub record HasValues (c : Circuit) (ps : List ℕ) (s : State) (vs : List ℕ) (n : ℕ) : Type 0 where
  pub each : (x : Net) → IsPlaced c ps n x → slice_index vs (place c ps x) ≡ (signal c x).value s

-- this is the value of a cell, if that is a constant; of another cell it may be any
abbrev pub IsHeld : Cell → ℕ → Type 0
IsHeld (cell.Const w v) x = x ≡ v
IsHeld _ x = Unit {0}

-- the list has the values of all constants with a place before this one
pub record HasConstants (c : Circuit) (ps : List ℕ) (n : ℕ) (vs : List ℕ) : Type 0 where
  pub each : (k : ℕ) → k < length c.cells → slice_index ps k < n → IsHeld (cell_at c k) (slice_index vs (slice_index ps k))
