-- Widths of nets from those of earlier ones.
use Rattle.std.proofs.Common.{◌≡◌, ℕ, zero, suc, ◌+◌, ◌<◌, ◌≤◌, length, slice_index, refl, ap, sym, subst, ⊎_elim, lit≤, arith}
use Rattle.std.proofs.lemmas.Bool.{cases_lt}
use Rattle.pdl_net.specs.declared.Net.{Net}
use Rattle.pdl_net.specs.declared.Net.TheVariants.{Input, Reg as RegNet, Cell as CellNet}
use Rattle.pdl_net.specs.Circuit.{Circuit, inputs_of, reg_at}
use Rattle.pdl_net.specs.declared.BinOp.{BinOp}
use Rattle.pdl_net.specs.declared.BinOp.TheVariants.{Add, Sub, Mul, And, Or, Xor, Eq, Ne, Lt, Shl, Shr}
use Rattle.pdl_net.specs.declared.Cell.{Cell}
use Rattle.pdl_net.specs.declared.Cell.TheVariants.{Const, Not, Bin, Mux, Slice, Cat, Rep, Read}
use Rattle.pdl_net.specs.Signal.{Signal, bin_width}
use Rattle.pdl_net.specs.Meaning.{signal, cell_signal, IsThere, IsThereAt}
use Rattle.pdl_net.specs.Well.{IsWidth, FitsIn, IsWell, CellsWell}
use Rattle.pdl_net.proofs.CellSignals.{cell_at, signal_cell, fits_cell}
use Rattle.pdl_net.proofs.Bounds.{input_well, rep_wide}
use Rattle.pdl_net.specs.Width.{IsBefore}
use Rattle.pdl_word.specs.Words.{widest}

-- a net among the first k cells comes before the next
pub before : (c : Circuit) (k : ℕ) (a : Net) → k ≤ length c.cells → IsThereAt c k a → IsBefore c a (k + 1)
unfolding IsThere
before c k (Input i) l h = record { there = h; before = omega arith }
before c k (RegNet r) l h = record { there = h; before = omega arith }
before c k (CellNet j) l h = record { there = omega arith; before = omega arith }

-- the net of the k-th cell is as wide as the signal that the cell makes
pub width_is : (c : Circuit) → CellsWell c → (k : ℕ)
    → k < length c.cells → (signal c (CellNet k)).width ≡ (cell_signal c (signal c) (cell_at c k)).width
width_is c w k h = ap (λ f. f.width) (signal_cell c w.fit k h)

-- the k-th cell fits over the cells before it, where all cells are well formed
pub fits_now : (c : Circuit) → CellsWell c → (k : ℕ) (g : Cell)
    → k < length c.cells → g ≡ cell_at c k → FitsIn c (IsThereAt c k) (signal c) g
fits_now c w k g h e = let P : Cell → Type 0 = λ x. FitsIn c (IsThereAt c k) (signal c) x in subst P (sym e) (fits_cell c w.fit k h)

-- what the k-th cell makes has at most widest bits, where all cells are well formed
pub width_now : (c : Circuit) → CellsWell c → (k : ℕ) (g : Cell)
    → k < length c.cells → g ≡ cell_at c k → (cell_signal c (signal c) g).width ≤ widest
width_now c w k g h e =
    let P : Cell → Type 0 = λ x. (cell_signal c (signal c) x).width ≤ widest in
    let b = (w.widths k h).high in
    subst P (sym e) (omega (arith, b, width_is c w k h))

-- a cell whose net is there is one of the circuit's cells
pub there_cell : (c : Circuit) (k : ℕ) → IsThere c (CellNet k) → k < length c.cells
unfolding IsThere
there_cell c k h = h

-- an input whose net is there is one of the circuit's inputs
pub there_input : (c : Circuit) (i : ℕ) → IsThere c (Input i) → i < length (inputs_of c)
unfolding IsThere
there_input c i h = h

-- a register whose net is there is one of the circuit's registers
pub there_reg : (c : Circuit) (r : ℕ) → IsThere c (RegNet r) → r < length c.regs
unfolding IsThere
there_reg c r h = h

-- an input's net has the width of the input
pub width_of_input : (c : Circuit) (i : ℕ) → (signal c (Input i)).width ≡ slice_index (inputs_of c) i
unfolding signal
width_of_input c i = refl

-- a register's net has the width of the register
pub width_of_reg : (c : Circuit) (r : ℕ) → (signal c (RegNet r)).width ≡ (reg_at c r).width
unfolding signal
width_of_reg c r = refl

pub ruleset nets = (there_input, there_reg, there_cell, width_of_input, width_of_reg)

bin_wide : (op : BinOp) (w : ℕ) → IsWidth w → IsWidth (bin_width op w)
bin_wide Eq w h = record { low = lit≤ tt; high = lit≤ tt }
bin_wide Ne w h = record { low = lit≤ tt; high = lit≤ tt }
bin_wide Lt w h = record { low = lit≤ tt; high = lit≤ tt }
bin_wide Add w h = h
bin_wide Sub w h = h
bin_wide Mul w h = h
bin_wide And w h = h
bin_wide Or w h = h
bin_wide Xor w h = h
bin_wide Shl w h = h
bin_wide Shr w h = h

-- a cell over nets of 1 to widest bits has 1 to widest bits
cell_wide : (c : Circuit) (There : Net → Type 0) (at : Net → Signal) → IsWell c
    → ((x : Net) → There x → IsWidth (at x).width) → (g : Cell) → FitsIn c There at g
    → IsWidth (cell_signal c at g).width
cell_wide c There at w h (Const n v) f = record { low = f.0; high = f.1 }
cell_wide c There at w h (Not a) f = h a f
cell_wide c There at w h (Bin op a b) f = bin_wide op (at a).width (h a f.0)
cell_wide c There at w h (Mux x a b) f = h a f.1
cell_wide c There at w h (Slice a high low) f = let p = h a f.0 in record { low = omega (arith, f.1); high = omega (arith, f.1, f.2, p.high) }
cell_wide c There at w h (Cat a b) f = let p = h a f.0 in record { low = omega (arith, p.low); high = f.2 }
cell_wide c There at w h (Rep k a) f = let p = h a f.0 in record { low = rep_wide k (at a).width f.1 p.low; high = f.2 }
cell_wide c There at w h (Read m a) f = let k = w.arrays m f.0 in record { low = k.low; high = k.high }

-- each net of a well formed circuit has 1 to widest bits
wide_at : (c : Circuit) → IsWell c → (n : ℕ) → n ≤ length c.cells → (x : Net) → IsThereAt c n x → IsWidth (signal c x).width
unfolding signal
wide_at c w n l (Input i) h = input_well c w i h
wide_at c w n l (RegNet r) h = let b = w.regs r h in record { low = b.low; high = b.high }
wide_at c w zero l (CellNet k) h = absurd (omega arith)
wide_at c w (suc n) l (CellNet k) h =
    ⊎_elim
    (λ (lt : k < n). wide_at c w n (omega arith) (CellNet k) lt)
    (λ (ge : n ≤ k).
    let i : k < length c.cells = omega arith in
    let e : k ≡ n = omega arith in
    let P : Signal → Type 0 = λ f. IsWidth f.width in
    let Q : ℕ → Type 0 = λ j. FitsIn c (IsThereAt c j) (signal c) (cell_at c k) in
    subst P (sym (signal_cell c w.cells k i))
    (cell_wide c (IsThereAt c n) (signal c) w (wide_at c w n (omega arith)) (cell_at c k) (subst Q e (fits_cell c w.cells k i))))
    (cases_lt k n)

-- all cells of a well formed circuit fit, and have 1 to widest bits
pub cells_well : (c : Circuit) → IsWell c → CellsWell c
unfolding IsThere
cells_well c w = record { fit = w.cells; widths = λ k h. wide_at c w (length c.cells) (omega arith) (CellNet k) h }
