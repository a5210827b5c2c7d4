-- Circuits whose nets are there, with the right widths.
use Rattle.std.specs.Prelude.{◌≡◌, ℕ, ◌+◌, ◌*◌, ◌^◌, ◌<◌, ◌≤◌, List, [], ◌∷◌, ◌++◌, length, slice_get, slice_index, slice_index_or, Some}
use Rattle.pdl_net.specs.declared.Net.{Net}
use Rattle.pdl_net.specs.declared.Net.TheVariants.{Cell as CellNet}
use Rattle.pdl_net.specs.declared.Cell.{Cell}
use Rattle.pdl_net.specs.declared.Cell.TheVariants.{Const, Not, Bin, Mux, Slice, Cat, Rep, Read}
use Rattle.pdl_net.specs.declared.Dir.{Dir}
use Rattle.pdl_net.specs.declared.Dir.TheVariants.{In, Out}
use Rattle.pdl_net.specs.declared.Port.{Port}
use Rattle.pdl_net.specs.declared.Reg.{Reg}
use Rattle.pdl_net.specs.declared.WritePort.{WritePort}
use Rattle.pdl_net.specs.declared.Array.{Array}
use Rattle.pdl_net.specs.Circuit.{Circuit, State, inputs_of, reg_at, array_at}
use Rattle.pdl_net.specs.Signal.{Signal}
use Rattle.pdl_net.specs.Meaning.{look, cell_signal, signal, IsThereAt, IsThere}
use Rattle.pdl_word.specs.Words.{widest}

-- a width in bits
pub record IsWidth (w : ℕ) : Type 0 where
  pub low : 1 ≤ w
  pub high : w ≤ widest

-- a depth of an array: a power of two from 2 to 131,072
pub record IsDepth (d : ℕ) : Type 0 where
  pub bits : ℕ
  pub low : 1 ≤ bits
  pub high : bits ≤ 17
  pub power : d ≡ 2 ^ bits

-- a cell reads nets that are there, with the right widths; an address reaches each word of its array and no more
abbrev pub FitsIn : Circuit → (Net → Type 0) → (Net → Signal) → Cell → Type 0
FitsIn c There at (Const w v) = (1 ≤ w) × (w ≤ widest) × (v < 2 ^ w)
FitsIn c There at (Not a) = There a
FitsIn c There at (Bin op a b) = There a × There b × ((at a).width ≡ (at b).width)
FitsIn c There at (Mux x a b) = There x × There a × There b × ((at x).width ≡ 1) × ((at a).width ≡ (at b).width)
FitsIn c There at (Slice a high low) = There a × (low ≤ high) × (high < (at a).width)
FitsIn c There at (Cat a b) = There a × There b × ((at a).width + (at b).width ≤ widest)
FitsIn c There at (Rep k a) = There a × (1 ≤ k) × (k * (at a).width ≤ widest)
FitsIn c There at (Read m a) = (m < length c.arrays) × There a × (2 ^ (at a).width ≡ (array_at c m).depth)

-- a cell reads nets of the circuit, with the right widths
abbrev pub Fits : Circuit → Cell → Type 0
Fits c g = FitsIn c (IsThere c) (signal c) g

-- each of these cells fits, where the cells before them have these signals
abbrev pub AllFit : Circuit → List Cell → List Signal → Type 0
AllFit c [] done = Unit {0}
AllFit c (g ∷ gs) done = FitsIn c (IsThereAt c (length done)) (look c done) g × AllFit c gs (done ++ cell_signal c (look c done) g ∷ [])

-- all cells of the circuit fit
abbrev pub CellsFit : Circuit → Type 0
CellsFit c = AllFit c c.cells []

-- all cells fit, and have 1 to widest bits
pub record CellsWell (c : Circuit) : Type 0 where
  pub fit : CellsFit c
  pub widths : (k : ℕ) → k < length c.cells → IsWidth (signal c (CellNet k)).width

-- an output's net is there, with the width of the port
abbrev pub IsDriven : Circuit → ℕ → Dir → Type 0
IsDriven c w In = Unit {0}
IsDriven c w (Out x) = IsThere c x × ((signal c x).width ≡ w)

-- a port has 1 to widest bits, and an output is driven by a net of that width
pub record IsWellPort (c : Circuit) (p : Port) : Type 0 where
  pub low : 1 ≤ p.width
  pub high : p.width ≤ widest
  pub driven : IsDriven c p.width p.dir

-- a register's reset value fits its width, and its next value is there, with that width
pub record IsWellReg (c : Circuit) (r : Reg) : Type 0 where
  pub low : 1 ≤ r.width
  pub high : r.width ≤ widest
  pub reset : r.reset < 2 ^ r.width
  pub next : IsThere c r.next
  pub width : (signal c r.next).width ≡ r.width

-- a write port's nets are there, with 1 bit, the bits of an address, and the array's width
pub record IsWellWrite (c : Circuit) (a : Array) (p : WritePort) : Type 0 where
  pub enable : IsThere c p.enable
  pub addr : IsThere c p.addr
  pub value : IsThere c p.value
  pub one : (signal c p.enable).width ≡ 1
  pub reach : 2 ^ (signal c p.addr).width ≡ a.depth
  pub width : (signal c p.value).width ≡ a.width

-- an array has words of 1 to widest bits, a depth that is allowed, and write ports that fit it
pub record IsWellArray (c : Circuit) (a : Array) : Type 0 where
  pub low : 1 ≤ a.width
  pub high : a.width ≤ widest
  pub depth : IsDepth a.depth
  pub writes : (k : ℕ) (p : WritePort) → slice_get a.writes k ≡ Some p → IsWellWrite c a p

-- a circuit in which all ports, cells, registers and arrays fit
pub record IsWell (c : Circuit) : Type 0 where
  pub ports : (i : ℕ) (p : Port) → slice_get c.ports i ≡ Some p → IsWellPort c p
  pub cells : CellsFit c
  pub regs : (r : ℕ) → r < length c.regs → IsWellReg c (reg_at c r)
  pub arrays : (m : ℕ) → m < length c.arrays → IsWellArray c (array_at c m)

-- a state of the circuit: all its inputs, registers and arrays, with values that fit their widths
pub record Suits (c : Circuit) (s : State) : Type 0 where
  pub input_count : length s.inputs ≡ length (inputs_of c)
  pub inputs : (i : ℕ) → i < length (inputs_of c) → slice_index s.inputs i < 2 ^ slice_index (inputs_of c) i
  pub reg_count : length s.regs ≡ length c.regs
  pub regs : (r : ℕ) → r < length c.regs → slice_index s.regs r < 2 ^ (reg_at c r).width
  pub array_count : length s.arrays ≡ length c.arrays
  pub depth : (m : ℕ) → m < length c.arrays → length (slice_index_or s.arrays m []) ≡ (array_at c m).depth
  pub words : (m : ℕ) → m < length c.arrays → (a : ℕ) → slice_index (slice_index_or s.arrays m []) a < 2 ^ (array_at c m).width

-- a signal of 1 to widest bits whose value fits its width
pub record IsBounded (s : State) (f : Signal) : Type 0 where
  pub low : 1 ≤ f.width
  pub high : f.width ≤ widest
  pub fits : f.value s < 2 ^ f.width
