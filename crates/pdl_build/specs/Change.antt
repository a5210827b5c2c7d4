-- What each call of a builder changes.
use Rattle.std.specs.Prelude.{◌≡◌, ℕ, ◌+◌, List, [], ◌∷◌, ◌++◌, length, slice_set}
use Rattle.pdl_net.specs.declared.Net.{Net}
use Rattle.pdl_net.specs.declared.Net.TheVariants.{Reg as RegNet}
use Rattle.pdl_net.specs.declared.Dir.TheVariants.{In, Out}
use Rattle.pdl_net.specs.declared.Port.{Port}
use Rattle.pdl_net.specs.declared.Cell.{Cell}
use Rattle.pdl_net.specs.declared.Reg.{Reg}
use Rattle.pdl_net.specs.declared.Array.{Array}
use Rattle.pdl_net.specs.declared.WritePort.{WritePort}
use Rattle.pdl_net.specs.Circuit.{Circuit, Shape, reg_at, array_at, HasReg, reg_width, reg_reset, HasArray, array_width, array_depth}
use Rattle.pdl_net.specs.Signal.{reg_signal}
use Rattle.pdl_net.specs.Meaning.{IsThere, signal, next_signal, write_signals}
use Rattle.pdl_net.specs.Growth.{Own}

-- the circuit in which nothing is
abbrev pub empty_circuit : Circuit
empty_circuit = record { ports = []; regs = []; arrays = []; cells = [] }

-- the circuit with a cell more
abbrev pub with_cell : Circuit → Cell → Circuit
with_cell c g = record c { cells = c.cells ++ g ∷ [] }

-- the circuit with a port more
abbrev pub with_port : Circuit → Port → Circuit
with_port c p = record c { ports = c.ports ++ p ∷ [] }

-- an input with this name and width
abbrev pub input_port : List ℕ → ℕ → Port
input_port n w = record { name = n; width = w; dir = In }

-- an output has the width of its net
abbrev pub output_port : Circuit → List ℕ → Net → Port
output_port c n x = record { name = n; width = (signal c x).width; dir = Out x }

-- a register that keeps its value
abbrev pub new_reg : Circuit → ℕ → ℕ → Reg
new_reg c w v = record { width = w; reset = v; next = RegNet (length c.regs) }

-- the circuit with a register more, of this width and reset value
abbrev pub with_reg : Circuit → ℕ → ℕ → Circuit
with_reg c w v = record c { regs = c.regs ++ new_reg c w v ∷ [] }

-- the register of this number, which takes the net next
abbrev pub next_reg : Circuit → ℕ → Net → Reg
next_reg c r x = record (reg_at c r) { next = x }

-- the circuit in which the register of this number takes the net next
abbrev pub with_next : Circuit → ℕ → Net → Circuit
with_next c r x = record c { regs = slice_set c.regs r (next_reg c r x) }

-- the shape of an array with this name, width and depth
abbrev pub new_shape : List ℕ → ℕ → ℕ → Shape
new_shape n w d = record { name = n; width = w; depth = d }

-- an array that nothing writes
abbrev pub new_array : List ℕ → ℕ → ℕ → Array
new_array n w d = record { name = n; width = w; depth = d; writes = [] }

-- the circuit with an array more, which nothing writes
abbrev pub with_array : Circuit → List ℕ → ℕ → ℕ → Circuit
with_array c n w d = record c { arrays = c.arrays ++ new_array n w d ∷ [] }

-- the array of this number with a write port more
abbrev pub written_array : Circuit → ℕ → WritePort → Array
written_array c m p = record (array_at c m) { writes = (array_at c m).writes ++ p ∷ [] }

-- the circuit in which the array of this number has a write port more
abbrev pub with_write : Circuit → ℕ → WritePort → Circuit
with_write c m p = record c { arrays = slice_set c.arrays m (written_array c m p) }

-- the write port of these nets for enable, address and value
abbrev pub write_port : Net → Net → Net → WritePort
write_port e a v = record { enable = e; addr = a; value = v }

-- a fragment's one register, without arrays
abbrev pub one_reg : ℕ → Own
one_reg r = record { from = r; to = r + 1; first = 0; last = 0 }

-- a fragment's one array, without registers
abbrev pub one_array : ℕ → Own
one_array m = record { from = 0; to = 0; first = m; last = m + 1 }

-- a register with this width and reset value that keeps its value
pub record IsNewReg (c : Circuit) (r w v : ℕ) : Type 0 where
  pub has : HasReg c r
  pub there : IsThere c (RegNet r)
  pub same : signal c (RegNet r) ≡ reg_signal w r
  pub width : reg_width c r ≡ w
  pub reset : reg_reset c r ≡ v
  pub next : next_signal c r ≡ reg_signal w r

-- an array of this width and depth that nothing writes
pub record IsNewArray (c : Circuit) (m w d : ℕ) : Type 0 where
  pub has : HasArray c m
  pub width : array_width c m ≡ w
  pub depth : array_depth c m ≡ d
  pub writes : write_signals c m ≡ []
