-- What the text of a well formed netlist declares is that netlist's.
use Rattle.std.proofs.Common.{◌≡◌, Ok, sym}
use Rattle.pdl_net.specs.declared.Netlist.{Netlist}
use Rattle.pdl_net.specs.Pipe.{IsWellFormed}
use Rattle.pdl_vread_nets.specs.Wired.{wiring}
use Rattle.pdl_vread.specs.Reads.{IsNetlistOf}
use Rattle.pdl_verilog.specs.Declared.{Lines, declared, wiring_of}
use Rattle.pdl_verilog.proofs.RuleV3.{right}
use Rattle.pdl_verilog.specs.Names.{IsCounted}
use Rattle.pdl_verilog.proofs.RuleV4.{once}
use Rattle.pdl_verilog.proofs.RebuiltNetlist.{again}

-- where its names stand for its wiring
pub netlist_of : (lines : Lines) (n : Netlist) → IsWellFormed n → IsCounted n
    → wiring (declared lines n) ≡ Ok (wiring_of n) → IsNetlistOf (declared lines n) n
netlist_of lines n h k e = record {
  wiring = wiring_of n;
  wired = record { names = e; widths = right lines n h; once = once lines n h k };
  same = sym (again lines n h);
  pipe = h.pipe;
}
