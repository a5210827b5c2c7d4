-- A netlist of one stage, for the tests: a register counts up from 1, and in each cycle in which it is odd the memory's word at its second bit grows by it. Where its second bit is 1 too, that word is written a second time, and is one more.
use Rattle.std.specs.Prelude.{ℕ, List, [], ◌∷◌, ◌++◌, codes, false}
use Rattle.pdl_net.specs.declared.Net.{Net}
use Rattle.pdl_net.specs.declared.Net.TheVariants.{Reg as RegNet, Cell as CellNet}
use Rattle.pdl_net.specs.declared.BinOp.TheVariants.{Add, And}
use Rattle.pdl_net.specs.declared.Dir.TheVariants.{Out}
use Rattle.pdl_net.specs.declared.Port.{Port}
use Rattle.pdl_net.specs.declared.Cell.TheVariants.{Const, Bin, Slice, Read}
use Rattle.pdl_net.specs.declared.WritePort.{WritePort}
use Rattle.pdl_net.specs.declared.Array.{Array}
use Rattle.pdl_net.specs.declared.Netlist.{Netlist}

-- an output port of this name and width, which shows this net
abbrev pub out : List ℕ → ℕ → Net → Port
out name width net = record { name = name; width = width; dir = Out net }

-- the first write port of the memory, which writes in the cycles in which the register is odd
abbrev pub odd_write : WritePort
odd_write = record { enable = CellNet 3; addr = CellNet 5; value = CellNet 7 }

-- the second one, which writes where the register's second bit is 1 too
abbrev pub later_write : WritePort
later_write = record { enable = CellNet 8; addr = CellNet 5; value = CellNet 9 }

-- the memory: two words of 4 bits, with two write ports
abbrev pub memory : Array
memory = record { name = codes "m"; width = 4; depth = 2; writes = odd_write ∷ later_write ∷ [] }

-- the outputs of what the memory commits, first and second
abbrev pub commits : List Port
commits =
    out (codes "c_m") 1 (CellNet 3) ∷ out (codes "ca_m") 1 (CellNet 5) ∷ out (codes "cd_m") 4 (CellNet 7)
    ∷ out (codes "c2_m") 1 (CellNet 8) ∷ out (codes "ca2_m") 1 (CellNet 5) ∷ out (codes "cd2_m") 4 (CellNet 9) ∷ []

-- the last outputs
abbrev pub ends : List Port
ends = out (codes "ended") 1 (CellNet 0) ∷ out (codes "squash") 1 (CellNet 4) ∷ []

-- the whole netlist: its ports, its register, its memory and its cells
abbrev pub sample : Netlist
sample = record {
  name = codes "sample";
  ports =
      out (codes "v_0") 1 (CellNet 0) ∷ out (codes "g_0") 1 (CellNet 0) ∷ (commits ++ ends);
  regs = record { width = 4; reset = 1; next = CellNet 2 } ∷ [];
  arrays = memory ∷ [];
  cells =
      Const 1 1 ∷ Const 4 1 ∷ Bin Add (RegNet 0) (CellNet 1) ∷ Slice (RegNet 0) 0 0 ∷ Const 1 0 ∷ Slice (RegNet 0) 1 1
      ∷ Read 0 (CellNet 5) ∷ Bin Add (CellNet 6) (RegNet 0) ∷ Bin And (CellNet 3) (CellNet 5) ∷ Bin Add (CellNet 7) (CellNet 1) ∷ [];
  mems = record { name = codes "m"; width = 4; depth = 2; delayed = false } ∷ [];
}
