-- The text that is written of a netlist reads as that netlist.
use Rattle.std.proofs.Common.{subst}
use Rattle.pdl_net.specs.declared.Netlist.{Netlist}
use Rattle.pdl_net.specs.Pipe.{IsWellFormed}
use Rattle.pdl_vread_text.specs.Text.{IsFile}
use Rattle.pdl_vlog.specs.Layout.{verilog}
use Rattle.pdl_vread.specs.Reads.{Reads}
use Rattle.pdl_verilog.specs.Names.{HasNames, IsCounted}
use Rattle.pdl_verilog.proofs.FileText.{text_of_file}
use Rattle.pdl_verilog.proofs.GrammarText.{textual}
use Rattle.pdl_verilog.specs.Declared.{declared}
use Rattle.pdl_verilog.proofs.Bridge.{lines_of, same_file}
use Rattle.pdl_verilog.proofs.NetlistWiring.{wired}
use Rattle.pdl_verilog.proofs.NetlistOf.{netlist_of}

-- what is written of a well formed netlist, named in PDL and of fewer than 2^64 parts, reads as it
pub round_trip : (n : Netlist) → IsWellFormed n → HasNames n → IsCounted n → Reads (verilog n) n
round_trip n h names few = record {
  file = declared (lines_of n) n;
  text = subst (IsFile (verilog n)) (same_file n) (text_of_file n (textual n h names few.regs few.cells));
  netlist = netlist_of (lines_of n) n h few (wired (lines_of n) n h few);
}
