-- What the nets of a circuit mean.
use Rattle.std.specs.Prelude.{◌≡◌, ℕ, ◌<◌, List, [], ◌∷◌, ◌++◌, length, slice_index, slice_index_or, map}
use Rattle.pdl_net.specs.declared.Net.{Net}
use Rattle.pdl_net.specs.declared.Net.TheVariants.{Input, Reg as RegNet, Cell as CellNet}
use Rattle.pdl_net.specs.declared.Cell.{Cell}
use Rattle.pdl_net.specs.declared.Cell.TheVariants.{Const, Not, Bin, Mux, Slice, Cat, Rep, Read}
use Rattle.pdl_net.specs.declared.WritePort.{WritePort}
use Rattle.pdl_net.specs.Circuit.{Circuit, inputs_of, reg_at, array_at}
use Rattle.pdl_net.specs.Signal.{Signal, no_signal, input_signal, reg_signal, const_signal, not_signal, bin_signal, mux_signal, slice_signal, cat_signal, rep_signal, read_signal}

-- a net's signal, where the first cells have these
abbrev pub look : Circuit → List Signal → Net → Signal
look c done (Input i) = input_signal (slice_index (inputs_of c) i) i
look c done (RegNet r) = reg_signal (reg_at c r).width r
look c done (CellNet k) = slice_index_or done k no_signal

-- a cell's signal from those of its nets
abbrev pub cell_signal : Circuit → (Net → Signal) → Cell → Signal
cell_signal c at (Const w v) = const_signal w v
cell_signal c at (Not a) = not_signal (at a)
cell_signal c at (Bin op a b) = bin_signal op (at a) (at b)
cell_signal c at (Mux x a b) = mux_signal (at x) (at a) (at b)
cell_signal c at (Slice a high low) = slice_signal high low (at a)
cell_signal c at (Cat a b) = cat_signal (at a) (at b)
cell_signal c at (Rep k a) = rep_signal k (at a)
cell_signal c at (Read m a) = read_signal (array_at c m).width m (at a)

-- the cells' signals in order, each made of those before it
abbrev pub signals_from : Circuit → List Cell → List Signal → List Signal
signals_from c [] done = done
signals_from c (g ∷ gs) done = signals_from c gs (done ++ cell_signal c (look c done) g ∷ [])

-- the signals of all cells, in order
unfoldable pub signals : Circuit → List Signal
signals c = signals_from c c.cells []

-- what a net means
unfoldable pub signal : Circuit → Net → Signal
signal c x = look c (signals c) x

-- a net is an input, a register or one of the first n cells
abbrev pub IsThereAt : Circuit → ℕ → Net → Type 0
IsThereAt c n (Input i) = i < length (inputs_of c)
IsThereAt c n (RegNet r) = r < length c.regs
IsThereAt c n (CellNet k) = k < n

-- a net is an input, a register or a cell of the circuit
unfoldable pub IsThere : Circuit → Net → Type 0
IsThere c x = IsThereAt c (length c.cells) x

-- a net is there and means a signal
pub record Means (c : Circuit) (x : Net) (f : Signal) : Type 0 where
  pub there : IsThere c x
  pub same : signal c x ≡ f

-- what a register takes next
unfoldable pub next_signal : Circuit → ℕ → Signal
next_signal c r = signal c (reg_at c r).next

-- what a write port does
pub record WriteSignal : Type 0 where
  pub enable : Signal
  pub addr : Signal
  pub value : Signal

-- what the nets of a write port mean
abbrev pub write_signal : Circuit → WritePort → WriteSignal
write_signal c p = record { enable = signal c p.enable; addr = signal c p.addr; value = signal c p.value }

-- what the write ports of an array do, the later port last
unfoldable pub write_signals : Circuit → ℕ → List WriteSignal
write_signals c m = map (write_signal c) (array_at c m).writes
