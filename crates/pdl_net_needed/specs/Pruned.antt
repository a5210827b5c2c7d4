-- A netlist without the registers and cells that aren't kept.
use Rattle.std.specs.Prelude.{◌≡◌, ℕ, zero, suc, Bool, cond, List, [], ◌∷◌, map}
use Rattle.pdl_net.specs.declared.Net.{Net}
use Rattle.pdl_net.specs.declared.Net.TheVariants.{Input, Reg as RegNet, Cell as CellNet}
use Rattle.pdl_net.specs.declared.Cell.{Cell}
use Rattle.pdl_net.specs.declared.Cell.TheVariants.{Const, Not, Bin, Mux, Slice, Cat, Rep, Read}
use Rattle.pdl_net.specs.declared.Dir.{Dir}
use Rattle.pdl_net.specs.declared.Dir.TheVariants.{In, Out}
use Rattle.pdl_net.specs.declared.Port.{Port}
use Rattle.pdl_net.specs.declared.Reg.{Reg}
use Rattle.pdl_net.specs.declared.WritePort.{WritePort}
use Rattle.pdl_net.specs.declared.Array.{Array}
use Rattle.pdl_net.specs.declared.Netlist.{Netlist}
use Rattle.pdl_net.specs.Circuit.{circuit_of, shapes_of}
use Rattle.pdl_net.specs.Pipe.{head_of}
use Rattle.pdl_net_needed.specs.Needed.{Choice, KeepsNeeded}

-- the elements that are kept, in order
abbrev pub kept_of : {A : Type 0} → List Bool → List A → List A
kept_of [] xs = []
kept_of (b ∷ bs) [] = []
kept_of (b ∷ bs) (x ∷ xs) = cond b (x ∷ kept_of bs xs) (kept_of bs xs)

-- how many kept ones stand before a place
abbrev pub kept_before : List Bool → ℕ → ℕ
kept_before [] n = zero
kept_before (b ∷ bs) zero = zero
kept_before (b ∷ bs) (suc n) = cond b (suc (kept_before bs n)) (kept_before bs n)

-- a kept net by its new number
abbrev pub moved_net : Choice → Net → Net
moved_net k (Input i) = Input i
moved_net k (RegNet r) = RegNet (kept_before k.regs r)
moved_net k (CellNet j) = CellNet (kept_before k.cells j)

-- a cell over other nets
abbrev pub over_nets : (Net → Net) → Cell → Cell
over_nets f (Const w v) = Const w v
over_nets f (Not a) = Not (f a)
over_nets f (Bin op a b) = Bin op (f a) (f b)
over_nets f (Mux x a b) = Mux (f x) (f a) (f b)
over_nets f (Slice a high low) = Slice (f a) high low
over_nets f (Cat a b) = Cat (f a) (f b)
over_nets f (Rep n a) = Rep n (f a)
over_nets f (Read m a) = Read m (f a)

-- a cell over the new numbers of its nets
abbrev pub moved_cell : Choice → Cell → Cell
moved_cell k g = over_nets (moved_net k) g

-- a port's direction, with the new number of the net that an output shows
abbrev pub moved_dir : Choice → Dir → Dir
moved_dir k In = In
moved_dir k (Out x) = Out (moved_net k x)

-- a port, with the new number of the net that it shows
abbrev pub moved_port : Choice → Port → Port
moved_port k p = record { name = p.name; width = p.width; dir = moved_dir k p.dir }

-- a register, with the new number of the net that it takes next
abbrev pub moved_reg : Choice → Reg → Reg
moved_reg k r = record { width = r.width; reset = r.reset; next = moved_net k r.next }

-- a write port, with the new numbers of its nets
abbrev pub moved_write : Choice → WritePort → WritePort
moved_write k p = record { enable = moved_net k p.enable; addr = moved_net k p.addr; value = moved_net k p.value }

-- an array, with the new numbers of the nets of its write ports
abbrev pub moved_array : Choice → Array → Array
moved_array k a = record { name = a.name; width = a.width; depth = a.depth; writes = map (moved_write k) a.writes }

-- the netlist with the kept registers and cells alone, whose nets go by their new numbers
abbrev pub pruned : Choice → Netlist → Netlist
pruned k n = record {
  name = n.name;
  ports = map (moved_port k) n.ports;
  regs = map (moved_reg k) (kept_of k.regs n.regs);
  arrays = map (moved_array k) n.arrays;
  cells = map (moved_cell k) (kept_of k.cells n.cells);
  mems = n.mems;
}

-- the netlist `p` is `n` with its needed registers and cells alone
pub record IsPruned (n p : Netlist) : Type 0 where
  pub kept : Choice
  pub needed : KeepsNeeded (circuit_of n) kept
  pub same : p ≡ pruned kept n

-- two netlists with the same name, ports, arrays and memories, but for the nets that these read
pub record HasSameFrame (n p : Netlist) : Type 0 where
  pub name : p.name ≡ n.name
  pub ports : map head_of p.ports ≡ map head_of n.ports
  pub arrays : shapes_of (circuit_of p) ≡ shapes_of (circuit_of n)
  pub mems : p.mems ≡ n.mems
