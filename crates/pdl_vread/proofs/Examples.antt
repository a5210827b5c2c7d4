-- Single files: what they are wired to, what is built of them, and what a first broken rule is.
use Rattle.std.proofs.Common.{◌≡◌, ℕ, false, List, [], ◌∷◌, Some, None, Ok, codes, refl}
use Rattle.std.specs.Fmt.{digits}
use Rattle.pdl_kit.specs.declared.rule.Rule.TheVariants.{V2}
use Rattle.pdl_net.specs.declared.Net.TheVariants.{Reg as RegNet, Cell as CellNet}
use Rattle.pdl_net.specs.declared.Cell.TheVariants as c
use Rattle.pdl_net.specs.declared.BinOp.TheVariants.{Add}
use Rattle.pdl_net.specs.declared.Dir.TheVariants.{Out}
use Rattle.pdl_net.specs.declared.Netlist.{Netlist}
use Rattle.pdl_vread_text.specs.declared.file.File.{File}
use Rattle.pdl_vread_text.specs.declared.file.PortDecl.{PortDecl}
use Rattle.pdl_vread_text.specs.declared.file.OutputDecl.{OutputDecl}
use Rattle.pdl_vread_text.specs.declared.file.CellDecl.{CellDecl}
use Rattle.pdl_vread_text.specs.declared.file.Term.{Term}
use Rattle.pdl_vread_text.specs.declared.file.Term.TheVariants as t
use Rattle.pdl_vread_nets.specs.declared.wiring.Wiring.{Wiring}
use Rattle.pdl_vread_nets.specs.Wired.{wiring, net_of}
use Rattle.pdl_vread_rules.specs.Widths.{width_line}
use Rattle.pdl_vread_rules.specs.Once.{once_line}
use Rattle.pdl_vread_pipe.specs.ToldParts.{with_mems}
use Rattle.pdl_vread_pipe.specs.Tests.{judged}
use Rattle.pdl_vread_pipe.proofs.Pipes.{is_pipe_of}
use Rattle.pdl_vread.specs.Built.{built}
use Rattle.pdl_vread.specs.Reads.{IsNetlistOf, FileBreaks}

abbrev shown : List ℕ → ℕ → PortDecl
shown name high = record { line = 1; name = name; high = high; input = false }

abbrev assigned : ℕ → List ℕ → List ℕ → OutputDecl
assigned line port source = record { line = line; port = port; source = source }

abbrev cell : ℕ → List ℕ → ℕ → Term → CellDecl
cell line name high term = record { line = line; name = name; high = high; target = name; term = term }

-- one stage, a register that counts, and a memory with a lock that commits in each cycle
abbrev sample : File
sample = record {
  line = 1;
  name = codes "p";
  reset_line = 1;
  reset_high = 0;
  ports =
      shown (codes "v_0") 0 ∷ shown (codes "g_0") 0 ∷ shown (codes "c_m") 0 ∷ shown (codes "ca_m") 1
      ∷ shown (codes "cd_m") 7 ∷ shown (codes "ended") 0 ∷ shown (codes "squash") 0 ∷ [];
  regs = record { line = 2; name = codes "r7"; high = 1 } ∷ [];
  arrays = record { line = 3; name = codes "a_m"; high = 7; last = 3 } ∷ [];
  cells =
      cell 4 (codes "n5") 0 (t.Const 1 1) ∷ cell 5 (codes "n2") 1 (t.Bin Add (codes "r7") (codes "r7"))
      ∷ cell 6 (codes "n9") 7 (t.Read (codes "a_m") (codes "n2")) ∷ [];
  outputs =
      assigned 7 (codes "squash") (codes "n5") ∷ assigned 8 (codes "v_0") (codes "n5")
      ∷ assigned 9 (codes "g_0") (codes "n5") ∷ assigned 10 (codes "c_m") (codes "n5")
      ∷ assigned 11 (codes "ca_m") (codes "r7") ∷ assigned 12 (codes "cd_m") (codes "n9")
      ∷ assigned 13 (codes "ended") (codes "n5") ∷ [];
  reg_blocks = record { line = 14; reg = codes "r7"; width = 2; reset = 3; source = codes "n2" } ∷ [];
  array_blocks = record { line = 15; writes = record { line = 16; enable = codes "n5"; array = codes "a_m"; addr = codes "r7"; value = codes "n9" } ∷ [] } ∷ [];
}

abbrev nets : Wiring
nets = record {
  cells = c.Const 1 1 ∷ c.Bin Add (RegNet 0) (RegNet 0) ∷ c.Read 0 (CellNet 1) ∷ [];
  outputs =
      record { port = 6; net = CellNet 0 } ∷ record { port = 0; net = CellNet 0 } ∷ record { port = 1; net = CellNet 0 }
      ∷ record { port = 2; net = CellNet 0 } ∷ record { port = 3; net = RegNet 0 }
      ∷ record { port = 4; net = CellNet 2 } ∷ record { port = 5; net = CellNet 0 } ∷ [];
  regs = record { reg = 0; width = 2; reset = 3; net = CellNet 1 } ∷ [];
  blocks = (record { array = 0; port = record { enable = CellNet 0; addr = RegNet 0; value = CellNet 2 } } ∷ []) ∷ [];
}

abbrev netlist : Netlist
netlist = record {
  name = codes "p";
  ports =
      record { name = codes "v_0"; width = 1; dir = Out (CellNet 0) }
      ∷ record { name = codes "g_0"; width = 1; dir = Out (CellNet 0) }
      ∷ record { name = codes "c_m"; width = 1; dir = Out (CellNet 0) }
      ∷ record { name = codes "ca_m"; width = 2; dir = Out (RegNet 0) }
      ∷ record { name = codes "cd_m"; width = 8; dir = Out (CellNet 2) }
      ∷ record { name = codes "ended"; width = 1; dir = Out (CellNet 0) }
      ∷ record { name = codes "squash"; width = 1; dir = Out (CellNet 0) }
      ∷ [];
  regs = record { width = 2; reset = 3; next = CellNet 1 } ∷ [];
  arrays = record { name = codes "m"; width = 8; depth = 4; writes = record { enable = CellNet 0; addr = RegNet 0; value = CellNet 2 } ∷ [] } ∷ [];
  cells = c.Const 1 1 ∷ c.Bin Add (RegNet 0) (RegNet 0) ∷ c.Read 0 (CellNet 1) ∷ [];
  mems = record { name = codes "m"; width = 8; depth = 4; delayed = false } ∷ [];
}

wired : wiring sample ≡ Ok nets
unfolding wiring net_of
wired = refl

wide : width_line sample nets ≡ None
unfolding width_line lib.Count.ones
wide = refl

once : once_line sample nets ≡ None
unfolding once_line
once = refl

made : netlist ≡ with_mems (built sample nets) netlist.mems
unfolding built
made = refl

told : judged netlist ≡ Some netlist.mems
unfolding judged digits
told = refl

read : IsNetlistOf sample netlist
read = record { wiring = nets; wired = record { names = wired; widths = wide; once = once }; same = made; pipe = is_pipe_of netlist netlist.mems told }

-- ---- a broken rule, and its line

-- the second cell takes a net that stands after it
unnamed : FileBreaks
    (record sample {
      cells = cell 4 (codes "n5") 0 (t.Const 1 1) ∷ cell 5 (codes "n2") 1 (t.Not (codes "n9"))
          ∷ cell 6 (codes "n9") 7 (t.Read (codes "a_m") (codes "n2")) ∷ [];
    }) V2 5
unfolding wiring net_of
unnamed = refl

-- a reset of 2 bits, before all else that is too wide
wide_reset : width_line (record sample { reset_high = 1; regs = record { line = 2; name = codes "r7"; high = 64 } ∷ [] }) nets ≡ Some 1
unfolding width_line lib.Count.ones
wide_reset = refl

-- a register that no block drives
undriven : once_line (record sample { reg_blocks = [] }) (record nets { regs = [] }) ≡ Some 2
unfolding once_line
undriven = refl

-- an output that is driven twice, before an array that is declared twice
driven_twice : once_line
    (record sample { arrays = record { line = 3; name = codes "a_m"; high = 7; last = 3 } ∷ record { line = 3; name = codes "a_m"; high = 7; last = 3 } ∷ [] })
    (record nets { outputs = record { port = 0; net = CellNet 0 } ∷ nets.outputs }) ≡ Some 1
unfolding once_line
driven_twice = refl

-- a commit of another width than the array's
another_width : judged (record netlist { arrays = record { name = codes "m"; width = 7; depth = 4; writes = [] } ∷ [] }) ≡ None
unfolding judged digits
another_width = refl
