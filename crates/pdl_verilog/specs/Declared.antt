-- What the written text of a netlist declares, and what its names stand for.
use Rattle.std.specs.Prelude.{ℕ, suc, ◌-◌, List, [], ◌∷◌, ◌++◌, map, codes, decimal}
use Rattle.pdl_net.specs.declared.Cell.{Cell}
use Rattle.pdl_net.specs.declared.Cell.TheVariants as c
use Rattle.pdl_net.specs.declared.Dir.{Dir}
use Rattle.pdl_net.specs.declared.Dir.TheVariants.{In, Out}
use Rattle.pdl_net.specs.declared.Port.{Port}
use Rattle.pdl_net.specs.declared.Reg.{Reg}
use Rattle.pdl_net.specs.declared.WritePort.{WritePort}
use Rattle.pdl_net.specs.declared.Array.{Array}
use Rattle.pdl_net.specs.declared.Netlist.{Netlist}
use Rattle.pdl_net.specs.Pipe.{is_input}
use Rattle.pdl_vread_text.specs.declared.file.File.{File}
use Rattle.pdl_vread_text.specs.declared.file.PortDecl.{PortDecl}
use Rattle.pdl_vread_text.specs.declared.file.RegDecl.{RegDecl}
use Rattle.pdl_vread_text.specs.declared.file.ArrayDecl.{ArrayDecl}
use Rattle.pdl_vread_text.specs.declared.file.CellDecl.{CellDecl}
use Rattle.pdl_vread_text.specs.declared.file.OutputDecl.{OutputDecl}
use Rattle.pdl_vread_text.specs.declared.file.RegBlock.{RegBlock}
use Rattle.pdl_vread_text.specs.declared.file.WriteDecl.{WriteDecl}
use Rattle.pdl_vread_text.specs.declared.file.ArrayBlock.{ArrayBlock}
use Rattle.pdl_vread_text.specs.declared.file.Term.{Term}
use Rattle.pdl_vread_text.specs.declared.file.Term.TheVariants as t
use Rattle.pdl_vlog.specs.Layout.{net, array, input_names, cell_width}
use Rattle.pdl_vread_nets.specs.declared.wiring.OutputDrive.{OutputDrive}
use Rattle.pdl_vread_nets.specs.declared.wiring.RegDrive.{RegDrive}
use Rattle.pdl_vread_nets.specs.declared.wiring.ArrayWrite.{ArrayWrite}
use Rattle.pdl_vread_nets.specs.declared.wiring.Wiring.{Wiring}

-- ---- lines

-- the lines of what a text declares: of the ports, and of the i-th of the others
pub record Lines : Type 0 where
  pub ports : ℕ
  pub regs : ℕ → ℕ
  pub arrays : ℕ → ℕ
  pub cells : ℕ → ℕ
  pub outputs : ℕ → ℕ
  pub blocks : ℕ → ℕ
  pub array_blocks : ℕ → ℕ
  pub writes : ℕ → ℕ → ℕ

-- ---- declarations

-- the name of the r-th register
abbrev pub reg_name : ℕ → List ℕ
reg_name r = codes "r" ++ decimal r

-- the name of the k-th cell
abbrev pub cell_name : ℕ → List ℕ
cell_name k = codes "n" ++ decimal k

-- the name of an array: `a_` and that of its memory
abbrev pub array_name : Array → List ℕ
array_name a = codes "a_" ++ a.name

-- what the text declares of a port
abbrev pub port_decl : ℕ → Port → PortDecl
port_decl line p = record { line = line; name = p.name; high = p.width - 1; input = is_input p.dir }

-- the registers from the r-th on
abbrev pub reg_decls : (ℕ → ℕ) → ℕ → List Reg → List RegDecl
reg_decls at r [] = []
reg_decls at r (x ∷ xs) = record { line = at r; name = reg_name r; high = x.width - 1 } ∷ reg_decls at (suc r) xs

-- the arrays from the m-th on
abbrev pub array_decls : (ℕ → ℕ) → ℕ → List Array → List ArrayDecl
array_decls at m [] = []
array_decls at m (a ∷ rest) = record { line = at m; name = array_name a; high = a.width - 1; last = a.depth - 1 } ∷ array_decls at (suc m) rest

-- the right side of a cell, over the names of inputs
abbrev pub term : List (List ℕ) → List Array → Cell → Term
term inputs arrays (c.Const w v) = t.Const w v
term inputs arrays (c.Not a) = t.Not (net inputs a)
term inputs arrays (c.Bin op a b) = t.Bin op (net inputs a) (net inputs b)
term inputs arrays (c.Mux x a b) = t.Mux (net inputs x) (net inputs a) (net inputs b)
term inputs arrays (c.Slice a high low) = t.Slice (net inputs a) high low
term inputs arrays (c.Cat a b) = t.Cat (net inputs a) (net inputs b)
term inputs arrays (c.Rep k a) = t.Rep k (net inputs a)
term inputs arrays (c.Read m a) = t.Read (array arrays m) (net inputs a)

-- the cells from the k-th on, where a function tells their widths
abbrev pub cell_decls : (ℕ → ℕ) → List (List ℕ) → List Array → (ℕ → ℕ) → ℕ → List Cell → List CellDecl
cell_decls at inputs arrays width k [] = []
cell_decls at inputs arrays width k (g ∷ gs) =
    record { line = at k; name = cell_name k; high = width k - 1; target = cell_name k; term = term inputs arrays g }
    ∷ cell_decls at inputs arrays width (suc k) gs

-- the `assign` of a port, where it is an output, before the others
abbrev pub onto_drive : (ℕ → ℕ) → List (List ℕ) → ℕ → List ℕ → Dir → (ℕ → List OutputDecl) → List OutputDecl
onto_drive at inputs i name In more = more i
onto_drive at inputs i name (Out x) more = record { line = at i; port = name; source = net inputs x } ∷ more (suc i)

-- the `assign`s of ports, where i stand before them
abbrev pub output_decls : (ℕ → ℕ) → List (List ℕ) → ℕ → List Port → List OutputDecl
output_decls at inputs i [] = []
output_decls at inputs i (p ∷ ps) = onto_drive at inputs i p.name p.dir (λ j. output_decls at inputs j ps)

-- the blocks of the registers from the r-th on
abbrev pub reg_blocks : (ℕ → ℕ) → List (List ℕ) → ℕ → List Reg → List RegBlock
reg_blocks at inputs r [] = []
reg_blocks at inputs r (x ∷ xs) =
    record { line = at r; reg = reg_name r; width = x.width; reset = x.reset; source = net inputs x.next } ∷ reg_blocks at inputs (suc r) xs

-- the writes of a block from the j-th on
abbrev pub write_decls : (ℕ → ℕ) → List (List ℕ) → List ℕ → ℕ → List WritePort → List WriteDecl
write_decls at inputs name j [] = []
write_decls at inputs name j (p ∷ ps) =
    record { line = at j; enable = net inputs p.enable; array = name; addr = net inputs p.addr; value = net inputs p.value }
    ∷ write_decls at inputs name (suc j) ps

-- the block of an array, where it is written, before the others
abbrev pub onto_block : Lines → List (List ℕ) → ℕ → List ℕ → List WritePort → (ℕ → List ArrayBlock) → List ArrayBlock
onto_block lines inputs b name [] more = more b
onto_block lines inputs b name (p ∷ ps) more =
    record { line = lines.array_blocks b; writes = write_decls (lines.writes b) inputs name 0 (p ∷ ps) } ∷ more (suc b)

-- the blocks of arrays, where b stand before them
abbrev pub array_blocks : Lines → List (List ℕ) → ℕ → List Array → List ArrayBlock
array_blocks lines inputs b [] = []
array_blocks lines inputs b (a ∷ rest) = onto_block lines inputs b (array_name a) a.writes (λ j. array_blocks lines inputs j rest)

-- all that the text of a netlist declares, on these lines
abbrev pub declared : Lines → Netlist → File
declared lines n = record {
  line = lines.ports;
  name = n.name;
  reset_line = lines.ports;
  reset_high = 0;
  ports = map (port_decl lines.ports) n.ports;
  regs = reg_decls lines.regs 0 n.regs;
  arrays = array_decls lines.arrays 0 n.arrays;
  cells = cell_decls lines.cells (input_names n.ports) n.arrays (cell_width n) 0 n.cells;
  outputs = output_decls lines.outputs (input_names n.ports) 0 n.ports;
  reg_blocks = reg_blocks lines.blocks (input_names n.ports) 0 n.regs;
  array_blocks = array_blocks lines (input_names n.ports) 0 n.arrays;
}

-- ---- what its names stand for

-- what drives a port, the i-th, before the others
abbrev pub onto_output : ℕ → Dir → List OutputDrive → List OutputDrive
onto_output i In more = more
onto_output i (Out x) more = record { port = i; net = x } ∷ more

-- what drives the ports from the i-th on
abbrev pub output_drives : ℕ → List Port → List OutputDrive
output_drives i [] = []
output_drives i (p ∷ ps) = onto_output i p.dir (output_drives (suc i) ps)

-- what drives the registers from the r-th on
abbrev pub reg_drives : ℕ → List Reg → List RegDrive
reg_drives r [] = []
reg_drives r (x ∷ xs) = record { reg = r; width = x.width; reset = x.reset; net = x.next } ∷ reg_drives (suc r) xs

-- a write port of array m, as the wiring has it
abbrev pub written_to : ℕ → WritePort → ArrayWrite
written_to m p = record { array = m; port = p }

-- the writes of an array, the m-th, where it is written, before the others
abbrev pub onto_writes : ℕ → List WritePort → List (List ArrayWrite) → List (List ArrayWrite)
onto_writes m [] more = more
onto_writes m (p ∷ ps) more = map (written_to m) (p ∷ ps) ∷ more

-- the blocks of the arrays from the m-th on
abbrev pub block_writes : ℕ → List Array → List (List ArrayWrite)
block_writes m [] = []
block_writes m (a ∷ rest) = onto_writes m a.writes (block_writes (suc m) rest)

-- the wiring of the file that a netlist's text declares
abbrev pub wiring_of : Netlist → Wiring
wiring_of n = record {
  cells = n.cells;
  outputs = output_drives 0 n.ports;
  regs = reg_drives 0 n.regs;
  blocks = block_writes 0 n.arrays;
}
