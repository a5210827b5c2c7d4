-- The netlist of a file and its wiring.
use Rattle.std.specs.Prelude.{ℕ, suc, ◌+◌, ◌==◌, cond, List, [], ◌∷◌, map, drop}
use Rattle.std.specs.List.{range_with_len}
use Rattle.pdl_net.specs.declared.Net.{Net}
use Rattle.pdl_net.specs.declared.Net.TheVariants.{Input}
use Rattle.pdl_net.specs.declared.Dir.TheVariants.{In, Out}
use Rattle.pdl_net.specs.declared.Port.{Port}
use Rattle.pdl_net.specs.declared.Reg.{Reg}
use Rattle.pdl_net.specs.declared.WritePort.{WritePort}
use Rattle.pdl_net.specs.declared.Array.{Array}
use Rattle.pdl_net.specs.declared.Netlist.{Netlist}
use Rattle.pdl_vread_text.specs.declared.file.File.{File}
use Rattle.pdl_vread_text.specs.declared.file.PortDecl.{PortDecl}
use Rattle.pdl_vread_text.specs.declared.file.RegDecl.{RegDecl}
use Rattle.pdl_vread_text.specs.declared.file.ArrayDecl.{ArrayDecl}
use Rattle.pdl_vread_nets.specs.declared.wiring.OutputDrive.{OutputDrive}
use Rattle.pdl_vread_nets.specs.declared.wiring.RegDrive.{RegDrive}
use Rattle.pdl_vread_nets.specs.declared.wiring.ArrayWrite.{ArrayWrite}
use Rattle.pdl_vread_nets.specs.declared.wiring.Wiring.{Wiring}
use Rattle.pdl_vread_rules.specs.Widths.{bits}
use Rattle.pdl_vread_rules.specs.Once.{owner}

-- the net that the last `assign` to the i-th port gives it, another where there is none
abbrev pub driver : ℕ → Net → List OutputDrive → Net
driver i net [] = net
driver i net (o ∷ os) = driver i (cond (o.port == i) o.net net) os

-- the nets that the last `assign`s give n ports
abbrev pub drivers : ℕ → List OutputDrive → List Net
drivers n drives = map (λ i. driver i (Input 0) drives) (range_with_len 0 n)

-- a port; where it is an output a net drives it
abbrev pub port : PortDecl → Net → Port
port p net = record { name = p.name; width = bits p.high; dir = cond p.input In (Out net) }

-- the ports from the i-th on
abbrev pub ports : List OutputDrive → ℕ → List PortDecl → List Port
ports drives i [] = []
ports drives i (p ∷ ps) = port p (driver i (Input 0) drives) ∷ ports drives (suc i) ps

-- a register that no block gives anything
abbrev pub undriven : RegDecl → Reg
undriven d = record { width = bits d.high; reset = 0; next = Input 0 }

-- what a block gives a register
abbrev pub given : Reg → RegDrive → Reg
given x d = record { width = x.width; reset = d.reset; next = d.net }

-- the r-th register as the last block of it gives it
abbrev pub driven : ℕ → Reg → List RegDrive → Reg
driven r x [] = x
driven r x (d ∷ ds) = driven r (cond (d.reg == r) (given x d) x) ds

-- the registers from the r-th on
abbrev pub regs : List RegDrive → ℕ → List RegDecl → List Reg
regs drives r [] = []
regs drives r (d ∷ ds) = driven r (undriven d) drives ∷ regs drives (suc r) ds

-- the writes of the first block of the m-th array
abbrev pub writes : ℕ → List (List ArrayWrite) → List WritePort
writes m [] = []
writes m (ws ∷ more) = cond (owner ws == m) (map (λ w. w.port) ws) (writes m more)

-- the arrays from the m-th on; a memory has the name of its array without `a_`
abbrev pub arrays : List (List ArrayWrite) → ℕ → List ArrayDecl → List Array
arrays blocks m [] = []
arrays blocks m (a ∷ rest) =
    record { name = drop 2 a.name; width = bits a.high; depth = a.last + 1; writes = writes m blocks }
    ∷ arrays blocks (suc m) rest

-- the netlist, without the memories that V5 finds
unfoldable pub built : File → Wiring → Netlist
built f w = record {
  name = f.name;
  ports = ports w.outputs 0 f.ports;
  regs = regs w.regs 0 f.regs;
  arrays = arrays w.blocks 0 f.arrays;
  cells = w.cells;
  mems = [];
}
