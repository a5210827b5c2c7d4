-- What a netlist has to be to have a text, beside well formed.
use Rattle.std.specs.Prelude.{◌≡◌, ◌^◌, ◌<◌, true, All, length}
use Rattle.pdl_kit.specs.declared.mem_info.MemInfo.{MemInfo}
use Rattle.pdl_net.specs.declared.Netlist.{Netlist}
use Rattle.pdl_vread_text.specs.Words.{is_name}

-- the names of a netlist and of its memories are names of PDL
pub record HasNames (n : Netlist) : Type 0 where
  pub netlist : is_name n.name ≡ true
  pub mems : All (λ (m : MemInfo). is_name m.name ≡ true) n.mems

-- the registers and cells of a netlist can be counted in 64 bits, so that their numbers have different digits
pub record IsCounted (n : Netlist) : Type 0 where
  pub regs : length n.regs < 2 ^ 64
  pub cells : length n.cells < 2 ^ 64
