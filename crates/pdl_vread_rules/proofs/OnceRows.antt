-- Rows of V4: small files, with the line that breaks it.
use Rattle.std.proofs.Common.{◌≡◌, refl, ℕ, true, false, List, [], ◌∷◌, Option, Some, None, Result, Ok, Err, codes}
use Rattle.pdl_vread_text.specs.declared.file.File.{File}
use Rattle.pdl_vread_text.specs.declared.file.PortDecl.{PortDecl}
use Rattle.pdl_vread_text.specs.declared.file.RegDecl.{RegDecl}
use Rattle.pdl_vread_text.specs.declared.file.ArrayDecl.{ArrayDecl}
use Rattle.pdl_vread_text.specs.declared.file.CellDecl.{CellDecl}
use Rattle.pdl_vread_text.specs.declared.file.Term.TheVariants.{Const}
use Rattle.pdl_vread_text.specs.declared.file.OutputDecl.{OutputDecl}
use Rattle.pdl_vread_text.specs.declared.file.RegBlock.{RegBlock}
use Rattle.pdl_vread_text.specs.declared.file.WriteDecl.{WriteDecl}
use Rattle.pdl_vread_text.specs.declared.file.ArrayBlock.{ArrayBlock}
use Rattle.pdl_vread_nets.specs.declared.wiring.Wiring.{Wiring}
use Rattle.pdl_vread_nets.specs.Wired.{wiring, net_of}
use Rattle.pdl_vread_rules.specs.Once.{once_line}

-- ---- lines of files

abbrev output : ℕ → PortDecl
output line = record { line = line; name = codes "v_0"; high = 0; input = false }

abbrev input : ℕ → PortDecl
input line = record { line = line; name = codes "p_m"; high = 0; input = true }

abbrev reg : ℕ → RegDecl
reg line = record { line = line; name = codes "r0"; high = 0 }

abbrev array : ℕ → List ℕ → ArrayDecl
array line name = record { line = line; name = name; high = 0; last = 1 }

-- the wire `n0` of a constant
abbrev cell : ℕ → CellDecl
cell line = record { line = line; name = codes "n0"; high = 0; target = codes "n0"; term = Const 1 0 }

abbrev assign : ℕ → OutputDecl
assign line = record { line = line; port = codes "v_0"; source = codes "n0" }

abbrev drive : ℕ → RegBlock
drive line = record { line = line; reg = codes "r0"; width = 1; reset = 0; source = codes "n0" }

abbrev write : ℕ → List ℕ → WriteDecl
write line name = record { line = line; enable = codes "n0"; array = name; addr = codes "n0"; value = codes "n0" }

abbrev block : ℕ → List WriteDecl → ArrayBlock
block line writes = record { line = line; writes = writes }

-- a file of these lines, whose module is on line 1
abbrev file : List PortDecl → List RegDecl → List ArrayDecl → List CellDecl → List OutputDecl → List RegBlock → List ArrayBlock → File
file ports regs arrays cells outputs blocks array_blocks = record {
  line = 1;
  name = codes "p";
  reset_line = 1;
  reset_high = 0;
  ports = ports;
  regs = regs;
  arrays = arrays;
  cells = cells;
  outputs = outputs;
  reg_blocks = blocks;
  array_blocks = array_blocks;
}

-- where V2 is broken, 0
abbrev told : File → Result Wiring ℕ → Option ℕ
told f (Ok w) = once_line f w
told f (Err line) = Some 0

-- the line that breaks V4
abbrev line_of : File → Option ℕ
line_of f = told f (wiring f)

-- ---- rows

-- an input is driven by none, and an array may have no block
all_once : line_of
    (file (input 2 ∷ output 3 ∷ []) (reg 4 ∷ []) (array 5 (codes "a_m") ∷ array 6 (codes "a_k") ∷ []) (cell 7 ∷ [])
    (assign 8 ∷ []) (drive 9 ∷ []) (block 10 (write 11 (codes "a_m") ∷ write 12 (codes "a_m") ∷ []) ∷ []))
    ≡ None
unfolding once_line wiring net_of
all_once = refl

input_twice : line_of (file (input 2 ∷ output 3 ∷ input 4 ∷ []) [] [] (cell 7 ∷ []) (assign 8 ∷ []) [] []) ≡ Some 4
unfolding once_line wiring net_of
input_twice = refl

-- the first declaration is the one that is driven
output_twice : line_of (file (output 2 ∷ output 3 ∷ []) [] [] (cell 7 ∷ []) (assign 8 ∷ []) [] []) ≡ Some 3
unfolding once_line wiring net_of
output_twice = refl

output_not_driven : line_of (file (output 2 ∷ []) [] [] (cell 7 ∷ []) [] [] []) ≡ Some 2
unfolding once_line wiring net_of
output_not_driven = refl

output_driven_twice : line_of (file (output 2 ∷ []) [] [] (cell 7 ∷ []) (assign 8 ∷ assign 9 ∷ []) [] []) ≡ Some 2
unfolding once_line wiring net_of
output_driven_twice = refl

-- an output that is declared twice and driven twice breaks the rule at its first declaration
output_twice_both : line_of (file (output 2 ∷ output 3 ∷ []) [] [] (cell 7 ∷ []) (assign 8 ∷ assign 9 ∷ []) [] []) ≡ Some 2
unfolding once_line wiring net_of
output_twice_both = refl

reg_twice : line_of (file [] (reg 4 ∷ reg 5 ∷ []) [] (cell 7 ∷ []) [] (drive 9 ∷ []) []) ≡ Some 5
unfolding once_line wiring net_of
reg_twice = refl

reg_not_driven : line_of (file [] (reg 4 ∷ []) [] (cell 7 ∷ []) [] [] []) ≡ Some 4
unfolding once_line wiring net_of
reg_not_driven = refl

reg_driven_twice : line_of (file [] (reg 4 ∷ []) [] (cell 7 ∷ cell 8 ∷ []) [] (drive 9 ∷ drive 10 ∷ []) []) ≡ Some 4
unfolding once_line wiring net_of
reg_driven_twice = refl

-- lowest line first: an output before a register
output_first : line_of (file (output 2 ∷ []) (reg 4 ∷ reg 5 ∷ []) [] (cell 7 ∷ []) [] (drive 9 ∷ []) []) ≡ Some 2
unfolding once_line wiring net_of
output_first = refl

array_twice : line_of (file [] [] (array 5 (codes "a_m") ∷ array 6 (codes "a_m") ∷ []) (cell 7 ∷ []) [] [] []) ≡ Some 6
unfolding once_line wiring net_of
array_twice = refl

wire_twice : line_of (file [] [] [] (cell 7 ∷ cell 8 ∷ []) [] [] []) ≡ Some 8
unfolding once_line wiring net_of
wire_twice = refl

-- the second block, and not its write to another array
two_blocks : line_of
    (file [] [] (array 5 (codes "a_m") ∷ array 6 (codes "a_k") ∷ []) (cell 7 ∷ []) [] []
    (block 10 (write 11 (codes "a_m") ∷ []) ∷ block 12 (write 13 (codes "a_m") ∷ write 14 (codes "a_k") ∷ []) ∷ []))
    ≡ Some 12
unfolding once_line wiring net_of
two_blocks = refl

-- a block is that of the array which its first write names
two_arrays : line_of
    (file [] [] (array 5 (codes "a_m") ∷ array 6 (codes "a_k") ∷ []) (cell 7 ∷ []) [] []
    (block 10 (write 11 (codes "a_k") ∷ write 12 (codes "a_m") ∷ write 13 (codes "a_m") ∷ []) ∷ block 14 (write 15 (codes "a_m") ∷ []) ∷ []))
    ≡ Some 12
unfolding once_line wiring net_of
two_arrays = refl
