-- The registers of a port: first whether an orphan is outstanding, then of each place whether its thread owns the outstanding request.
use Rattle.std.specs.Prelude.{◌≡◌, ℕ, ◌+◌, ◌^◌, ◌<◌, Bool, true, false, length, slice_index}
use Rattle.pdl_word.specs.Words.{bit}
use Rattle.pdl_net.specs.declared.Net.TheVariants.{Reg}
use Rattle.pdl_net.specs.Circuit.{Circuit, State, HasReg, reg_width, reg_reset}
use Rattle.pdl_net.specs.Signal.{reg_signal}
use Rattle.pdl_net.specs.Meaning.{IsThere, signal}
use Rattle.pdl_net.specs.HasWidth.{HasWidth}
use Rattle.pdl_port.specs.declared.PortRegs.{PortRegs}
use Rattle.pdl_port.specs.declared.PortStep.{PortStep}
use Rattle.pdl_port.specs.declared.layout.PortLayout.{PortLayout}
use Rattle.pdl_port.specs.Port.{PortState, Idle, Owned, Orphan, owns}
use Rattle.pdl_port.specs.Laws.{places, first_reg, net_at}

-- the register of place k
abbrev pub owns_at : PortLayout → ℕ → ℕ
owns_at l k = l.from + k + 1

-- where the registers of a port stand
abbrev pub layout_of : PortRegs → PortLayout
layout_of r = record { from = first_reg r; places = places r }

-- the orphan's register and those of the first n places are in a circuit
pub record HasPlaces (c : Circuit) (l : PortLayout) (n : ℕ) : Type 0 where
  pub orphan_there : IsThere c (Reg l.from)
  pub orphan : signal c (Reg l.from) ≡ reg_signal 1 l.from
  pub has_orphan : HasReg c l.from
  pub orphan_one : reg_width c l.from ≡ 1
  pub owns_there : (k : ℕ) → k < n → IsThere c (Reg (owns_at l k))
  pub owner : (k : ℕ) → k < n → signal c (Reg (owns_at l k)) ≡ reg_signal 1 (owns_at l k)
  pub has_owns : (k : ℕ) → k < n → HasReg c (owns_at l k)
  pub owns_one : (k : ℕ) → k < n → reg_width c (owns_at l k) ≡ 1

-- in the first cycle no request is outstanding
pub record AreReset (c : Circuit) (l : PortLayout) (n : ℕ) : Type 0 where
  pub orphan : reg_reset c l.from ≡ 0
  pub owns : (k : ℕ) → k < n → reg_reset c (owns_at l k) ≡ 0

-- a port's registers are in a circuit, with the net of its reply
pub record ArePlaced (c : Circuit) (r : PortRegs) : Type 0 where
  pub count : length r.regs ≡ places r + 1
  pub small : first_reg r + places r + 1 < 2 ^ 64
  pub reply : HasWidth c r.reply 1
  pub regs : HasPlaces c (layout_of r) (places r)

-- the nets of a step are there: the reply, and three of each of n places
pub record HasStep (c : Circuit) (n : ℕ) (r : PortRegs) (p : PortStep) : Type 0 where
  pub reply : HasWidth c r.reply 1
  pub asked_count : length p.asked ≡ n
  pub asked : (k : ℕ) → k < n → HasWidth c (net_at p.asked k) 1
  pub moves_count : length p.moves ≡ n
  pub moves : (k : ℕ) → k < n → HasWidth c (net_at p.moves k) 1
  pub removed_count : length p.removed ≡ n
  pub removed : (k : ℕ) → k < n → HasWidth c (net_at p.removed k) 1

-- an orphan is outstanding
abbrev pub is_orphan : PortState → Bool
is_orphan Idle = false
is_orphan (Owned k) = false
is_orphan Orphan = true

-- the value of a register in a state
abbrev pub reg_of : State → ℕ → ℕ
reg_of s k = slice_index s.regs k

-- the registers stand for a state of the port
pub record Stands (l : PortLayout) (s : State) (x : PortState) : Type 0 where
  pub below : (k : ℕ) → x ≡ Owned k → k < l.places
  pub orphan : reg_of s l.from ≡ bit (is_orphan x)
  pub owner : (k : ℕ) → k < l.places → reg_of s (owns_at l k) ≡ bit (owns x k)

-- what the registers of a port stand for
abbrev pub stands : PortRegs → State → PortState → Type 0
stands r = Stands (layout_of r)
