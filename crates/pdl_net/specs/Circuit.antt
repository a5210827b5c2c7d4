-- A netlist as lists, without its name and its memories, and a state of it.
use Rattle.std.specs.Prelude.{ℕ, List, [], Option, Some, None, length, slice_index_or, filter_map, map, ◌<◌}
use Rattle.pdl_net.specs.declared.Net.{Net}
use Rattle.pdl_net.specs.declared.Net.TheVariants.{Input}
use Rattle.pdl_net.specs.declared.Dir.{Dir}
use Rattle.pdl_net.specs.declared.Dir.TheVariants.{In, Out}
use Rattle.pdl_net.specs.declared.Port.{Port}
use Rattle.pdl_net.specs.declared.Cell.{Cell}
use Rattle.pdl_net.specs.declared.Reg.{Reg}
use Rattle.pdl_net.specs.declared.Array.{Array}
use Rattle.pdl_net.specs.declared.Netlist.{Netlist}

-- what a netlist is made of, apart from its name and its memories
pub record Circuit : Type 0 where
  pub ports : List Port
  pub regs : List Reg
  pub arrays : List Array
  pub cells : List Cell

-- the values of the inputs, the registers and the words of the arrays at the start of a cycle
pub record State : Type 0 where
  pub inputs : List ℕ
  pub regs : List ℕ
  pub arrays : List (List ℕ)

-- a netlist as a circuit
abbrev pub circuit_of : Netlist → Circuit
circuit_of n = record { ports = n.ports; regs = n.regs; arrays = n.arrays; cells = n.cells }

-- the width of a port that is an input
abbrev pub input_with : Dir → ℕ → Option ℕ
input_with In w = Some w
input_with (Out x) w = None

-- the width of a port, if it is an input
abbrev pub port_input : Port → Option ℕ
port_input p = input_with p.dir p.width

-- the widths of the inputs, in order
abbrev pub inputs_of : Circuit → List ℕ
inputs_of c = filter_map port_input c.ports

-- an output: its name, and the net that drives it
pub record Output : Type 0 where
  pub name : List ℕ
  pub net : Net

-- the name and the net of a port that is an output
abbrev pub output_with : Dir → List ℕ → Option Output
output_with In name = None
output_with (Out x) name = Some (record { name = name; net = x })

-- the name and the net of a port, if it is an output
abbrev pub port_output : Port → Option Output
port_output p = output_with p.dir p.name

-- the outputs, in order
abbrev pub outputs_of : Circuit → List Output
outputs_of c = filter_map port_output c.ports

-- an array without its write ports
pub record Shape : Type 0 where
  pub name : List ℕ
  pub width : ℕ
  pub depth : ℕ

-- an array's name, width and depth
abbrev pub shape_of : Array → Shape
shape_of a = record { name = a.name; width = a.width; depth = a.depth }

-- the shapes of all arrays, in order
unfoldable pub shapes_of : Circuit → List Shape
shapes_of c = map shape_of c.arrays

-- the register past the last one
abbrev pub no_reg : Reg
no_reg = record { width = 0; reset = 0; next = Input 0 }

-- the array past the last one
abbrev pub no_array : Array
no_array = record { name = []; width = 0; depth = 0; writes = [] }

-- the r-th register
abbrev pub reg_at : Circuit → ℕ → Reg
reg_at c r = slice_index_or c.regs r no_reg

-- the m-th array
abbrev pub array_at : Circuit → ℕ → Array
array_at c m = slice_index_or c.arrays m no_array

-- a register is there, with this width and reset value
unfoldable pub HasReg : Circuit → ℕ → Type 0
HasReg c r = r < length c.regs

-- the width of a register
unfoldable pub reg_width : Circuit → ℕ → ℕ
reg_width c r = (reg_at c r).width

-- the reset value of a register
unfoldable pub reg_reset : Circuit → ℕ → ℕ
reg_reset c r = (reg_at c r).reset

-- an array is there, with words of this width, and so many of them
unfoldable pub HasArray : Circuit → ℕ → Type 0
HasArray c m = m < length c.arrays

-- the width of an array's words
unfoldable pub array_width : Circuit → ℕ → ℕ
array_width c m = (array_at c m).width

-- how many words an array has
unfoldable pub array_depth : Circuit → ℕ → ℕ
array_depth c m = (array_at c m).depth
