-- The text of a netlist.
use Rattle.std.specs.Prelude.{◌≡◌, ◌≤◌, slice_get, ℕ, suc, ◌+◌, ◌-◌, ◌/◌, List, [], ◌∷◌, ◌++◌, flat_map, slice_index_or, codes, decimal, Some}
use Rattle.pdl_net.specs.declared.Net.{Net}
use Rattle.pdl_net.specs.declared.Net.TheVariants.{Input, Reg as RegNet, Cell as CellNet}
use Rattle.pdl_net.specs.declared.Cell.{Cell}
use Rattle.pdl_net.specs.declared.Cell.TheVariants.{Const, Not, Bin, Mux, Slice, Cat, Rep, Read}
use Rattle.pdl_net.specs.declared.BinOp.{BinOp}
use Rattle.pdl_net.specs.declared.BinOp.TheVariants.{Add, Sub, Mul, And, Or, Xor, Eq, Ne, Lt, Shl, Shr}
use Rattle.pdl_net.specs.declared.Dir.{Dir}
use Rattle.pdl_net.specs.declared.Dir.TheVariants.{In, Out}
use Rattle.pdl_net.specs.declared.Port.{Port}
use Rattle.pdl_net.specs.declared.Reg.{Reg}
use Rattle.pdl_net.specs.declared.Array.{Array}
use Rattle.pdl_net.specs.declared.WritePort.{WritePort}
use Rattle.pdl_net.specs.declared.Netlist.{Netlist}
use Rattle.pdl_net.specs.Circuit.{circuit_of}
use Rattle.pdl_net.specs.Meaning.{signal}
use Rattle.pdl_word.specs.Digits.{hex}
use Rattle.pdl_word.specs.Words.{widest}

-- ---- names

-- the name of a port, where it is an input
abbrev pub input_name : Dir → List ℕ → List (List ℕ)
input_name In name = name ∷ []
input_name (Out x) name = []

-- the name of a port, if that is an input
abbrev pub named_input : Port → List (List ℕ)
named_input p = input_name p.dir p.name

-- the names of the inputs, in order
abbrev pub input_names : List Port → List (List ℕ)
input_names ports = flat_map named_input ports

-- the name of a net: that of the input, or `r` or `n` with its number
abbrev pub net : List (List ℕ) → Net → List ℕ
net inputs (Input i) = slice_index_or inputs i []
net inputs (RegNet r) = codes "r" ++ decimal r
net inputs (CellNet k) = codes "n" ++ decimal k

-- the name of an array
abbrev pub array : List Array → ℕ → List ℕ
array arrays m = codes "a_" ++ (slice_index_or arrays m (record { name = []; width = 0; depth = 0; writes = [] })).name

-- ---- parts

-- `[w-1:0]`
abbrev pub range : ℕ → List ℕ
range w = codes "[" ++ decimal (w - 1) ++ codes ":0]"

-- a constant with a digit for each four bits
abbrev pub constant : ℕ → ℕ → List ℕ
constant w v = decimal w ++ codes "'h" ++ hex ((w + 3) / 4) v

-- an operator as it is written
abbrev pub operator : BinOp → List ℕ
operator Add = codes "+"
operator Sub = codes "-"
operator Mul = codes "*"
operator And = codes "&"
operator Or = codes "|"
operator Xor = codes "^"
operator Eq = codes "=="
operator Ne = codes "!="
operator Lt = codes "<"
operator Shl = codes "<<"
operator Shr = codes ">>"

-- `a op b`
abbrev pub bin : List (List ℕ) → BinOp → Net → Net → List ℕ
bin inputs op a b = net inputs a ++ codes " " ++ operator op ++ codes " " ++ net inputs b

-- `c ? a : b`
abbrev pub mux : List (List ℕ) → Net → Net → Net → List ℕ
mux inputs c a b = net inputs c ++ codes " ? " ++ net inputs a ++ codes " : " ++ net inputs b

-- `a[high:low]`
abbrev pub slice : List (List ℕ) → Net → ℕ → ℕ → List ℕ
slice inputs a high low = net inputs a ++ codes "[" ++ decimal high ++ codes ":" ++ decimal low ++ codes "]"

-- `{a, b}`
abbrev pub cat : List (List ℕ) → Net → Net → List ℕ
cat inputs a b = codes "{" ++ net inputs a ++ codes ", " ++ net inputs b ++ codes "}"

-- `{k{a}}`
abbrev pub rep : List (List ℕ) → ℕ → Net → List ℕ
rep inputs k a = codes "{" ++ decimal k ++ codes "{" ++ net inputs a ++ codes "}}"

-- `a_id[a]`
abbrev pub read : List (List ℕ) → List Array → ℕ → Net → List ℕ
read inputs arrays m a = array arrays m ++ codes "[" ++ net inputs a ++ codes "]"

-- the right side of a cell
abbrev pub term : List (List ℕ) → List Array → Cell → List ℕ
term inputs arrays (Const w v) = constant w v
term inputs arrays (Not a) = codes "~" ++ net inputs a
term inputs arrays (Bin op a b) = bin inputs op a b
term inputs arrays (Mux c a b) = mux inputs c a b
term inputs arrays (Slice a high low) = slice inputs a high low
term inputs arrays (Cat a b) = cat inputs a b
term inputs arrays (Rep k a) = rep inputs k a
term inputs arrays (Read m a) = read inputs arrays m a

-- a constant has at most widest bits
abbrev pub IsShort : Cell → Type 0
IsShort (Const w v) = w ≤ widest
IsShort _ = Unit {0}

-- ---- lines

-- what stands before a block
unfoldable pub always : List ℕ
always = codes "always @(posedge clk)"

-- the ports of each netlist
unfoldable pub clock_and_reset : List ℕ
clock_and_reset = codes "(input wire clk, input wire [0:0] rst"

-- what stands before the range of a port
abbrev pub direction : Dir → List ℕ
direction In = codes ", input wire "
direction (Out x) = codes ", output wire "

-- a port in the first line
abbrev pub port : Port → List ℕ
port p = direction p.dir ++ range p.width ++ codes " " ++ p.name

-- what stands before the name of a module
unfoldable pub module_word : List ℕ
module_word = codes "module pdl_"

-- the module, the clock and the reset
abbrev pub opening : List ℕ → List ℕ
opening name = module_word ++ name ++ clock_and_reset

-- the first line
unfoldable pub head : List ℕ → List Port → List ℕ
head name ports = opening name ++ flat_map port ports ++ codes ");\n"

-- the declaration of a register
abbrev pub reg : ℕ → Reg → List ℕ
reg r x = codes "reg " ++ range x.width ++ codes " r" ++ decimal r ++ codes ";\n"

-- the declarations of the registers from the r-th on
abbrev pub regs : ℕ → List Reg → List ℕ
regs r [] = []
regs r (x ∷ xs) = reg r x ++ regs (suc r) xs

-- the range and the name of an array
abbrev pub array_head : Array → List ℕ
array_head a = codes "reg " ++ range a.width ++ codes " a_" ++ a.name

-- the declaration of an array
abbrev pub array_line : Array → List ℕ
array_line a = array_head a ++ codes " [0:" ++ decimal (a.depth - 1) ++ codes "];\n"

-- the wire of a cell
abbrev pub wire : ℕ → ℕ → List ℕ
wire k w = codes "wire " ++ range w ++ codes " n" ++ decimal k

-- the `assign` of a cell
abbrev pub assign : List (List ℕ) → List Array → ℕ → Cell → List ℕ
assign inputs arrays k g = codes ";\nassign n" ++ decimal k ++ codes " = " ++ term inputs arrays g ++ codes ";\n"

-- a cell of a width: its wire and its `assign`
abbrev pub cell : List (List ℕ) → List Array → ℕ → ℕ → Cell → List ℕ
cell inputs arrays k w g = wire k w ++ assign inputs arrays k g

-- the cells from the k-th on, where a function tells their widths
abbrev pub cells : List (List ℕ) → List Array → (ℕ → ℕ) → ℕ → List Cell → List ℕ
cells inputs arrays width k [] = []
cells inputs arrays width k (g ∷ gs) = cell inputs arrays k (width k) g ++ cells inputs arrays width (suc k) gs

-- the `assign` of a port, where it is an output
abbrev pub drive : List (List ℕ) → Dir → List ℕ → List ℕ
drive inputs In name = []
drive inputs (Out x) name = codes "assign " ++ name ++ codes " = " ++ net inputs x ++ codes ";\n"

-- the `assign` of a port, if that is an output
abbrev pub output : List (List ℕ) → Port → List ℕ
output inputs p = drive inputs p.dir p.name

-- what a register takes
abbrev pub takes : List (List ℕ) → Reg → List ℕ
takes inputs x = constant x.width x.reset ++ codes " : " ++ net inputs x.next ++ codes ";\n"

-- the block of a register
abbrev pub block : List (List ℕ) → ℕ → Reg → List ℕ
block inputs r x = always ++ codes " r" ++ decimal r ++ codes " <= rst ? " ++ takes inputs x

-- the blocks of the registers from the r-th on
abbrev pub blocks : List (List ℕ) → ℕ → List Reg → List ℕ
blocks inputs r [] = []
blocks inputs r (x ∷ xs) = block inputs r x ++ blocks inputs (suc r) xs

-- the word that a write writes, and where
abbrev pub written : List (List ℕ) → List ℕ → WritePort → List ℕ
written inputs name p = name ++ codes "[" ++ net inputs p.addr ++ codes "] <= " ++ net inputs p.value ++ codes ";\n"

-- a write to an array of a name
abbrev pub write : List (List ℕ) → List ℕ → WritePort → List ℕ
write inputs name p = codes "if (" ++ net inputs p.enable ++ codes ") a_" ++ written inputs name p

-- a block with these writes
abbrev pub whole_block : List (List ℕ) → List ℕ → List WritePort → List ℕ
whole_block inputs name ports = always ++ codes " begin\n" ++ flat_map (write inputs name) ports ++ codes "end\n"

-- the block of an array, if it has write ports
abbrev pub array_block : List (List ℕ) → List ℕ → List WritePort → List ℕ
array_block inputs name [] = []
array_block inputs name (p ∷ ps) = whole_block inputs name (p ∷ ps)

-- the block of an array with its own name and write ports
abbrev pub block_of : List (List ℕ) → Array → List ℕ
block_of inputs a = array_block inputs a.name a.writes

-- ---- widths

-- each port has at least 1 bit
abbrev pub HavePortWidths : List Port → Type 0
HavePortWidths ports = (i : ℕ) (p : Port) → slice_get ports i ≡ Some p → 1 ≤ p.width

-- each register has at least 1 bit
abbrev pub HaveRegWidths : List Reg → Type 0
HaveRegWidths rs = (i : ℕ) (r : Reg) → slice_get rs i ≡ Some r → 1 ≤ r.width

-- each register has at most widest bits
abbrev pub HaveShortWidths : List Reg → Type 0
HaveShortWidths rs = (i : ℕ) (r : Reg) → slice_get rs i ≡ Some r → r.width ≤ widest

-- each array has words of at least 1 bit, and at least one word
abbrev pub HaveArrayWidths : List Array → Type 0
HaveArrayWidths arrays = (i : ℕ) (a : Array) → slice_get arrays i ≡ Some a → (1 ≤ a.width) × (1 ≤ a.depth)

-- the width of a cell
abbrev pub cell_width : Netlist → ℕ → ℕ
cell_width n k = (signal (circuit_of n) (CellNet k)).width

-- the first line, and all that is declared
abbrev pub declared : List (List ℕ) → Netlist → List ℕ
declared inputs n = head n.name n.ports ++ regs 0 n.regs ++ flat_map array_line n.arrays ++ cells inputs n.arrays (cell_width n) 0 n.cells

-- what drives outputs, registers and arrays, and the last line
abbrev pub driven : List (List ℕ) → Netlist → List ℕ
driven inputs n = flat_map (output inputs) n.ports ++ blocks inputs 0 n.regs ++ flat_map (block_of inputs) n.arrays ++ codes "endmodule\n"

-- the whole text
unfoldable pub verilog : Netlist → List ℕ
verilog n = declared (input_names n.ports) n ++ driven (input_names n.ports) n
