-- Values that are built field by field.
use Rattle.std.proofs.Common.{◌≡◌, ℕ, Bool, List}
use Rattle.pdl_kit.specs.declared.mem_info.MemInfo.{MemInfo}
use Rattle.pdl_net.specs.declared.Port.{Port}
use Rattle.pdl_net.specs.declared.Reg.{Reg}
use Rattle.pdl_net.specs.declared.Array.{Array}
use Rattle.pdl_net.specs.declared.Cell.{Cell}
use Rattle.pdl_net.specs.declared.Netlist.{Netlist}

mem_of : List ℕ → ℕ → ℕ → Bool → MemInfo
mem_of n w d l = record { name = n; width = w; depth = d; delayed = l }

mems_of : (x y : MemInfo)
    → y.name ≡ x.name → y.width ≡ x.width → y.depth ≡ x.depth → y.delayed ≡ x.delayed
    → mem_of y.name y.width y.depth y.delayed ≡ mem_of x.name x.width x.depth x.delayed
mems_of x y n w d l = cc

-- a memory is another one where their fields are equal
pub same_mem : (x y : MemInfo) → y.name ≡ x.name → y.width ≡ x.width → y.depth ≡ x.depth → y.delayed ≡ x.delayed → y ≡ x
unfolding mem_of
same_mem x y n w d l = mems_of x y n w d l

netlist_of : List ℕ → List Port → List Reg → List Array → List Cell → List MemInfo → Netlist
netlist_of n o r a c m = record { name = n; ports = o; regs = r; arrays = a; cells = c; mems = m }

netlists_of : (p q : Netlist)
    → p.name ≡ q.name → p.ports ≡ q.ports → p.regs ≡ q.regs → p.arrays ≡ q.arrays → p.cells ≡ q.cells → p.mems ≡ q.mems
    → netlist_of p.name p.ports p.regs p.arrays p.cells p.mems ≡ netlist_of q.name q.ports q.regs q.arrays q.cells q.mems
netlists_of p q n o r a c m = cc

-- a netlist is another one where their fields are equal
pub same_netlist : (p q : Netlist)
    → p.name ≡ q.name → p.ports ≡ q.ports → p.regs ≡ q.regs → p.arrays ≡ q.arrays → p.cells ≡ q.cells → p.mems ≡ q.mems
    → p ≡ q
unfolding netlist_of
same_netlist p q n o r a c m = netlists_of p q n o r a c m
