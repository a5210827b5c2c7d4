-- The registers of an order for n threads, two words of n bits: as many ones as threads are inside, and the branches of these, the oldest thread's lowest.
use Rattle.std.specs.Prelude.{◌≡◌, ℕ, ◌+◌, ◌*◌, ◌^◌, ◌<◌, ◌≤◌, Bool, List, [], ◌∷◌, length, slice_index}
use Rattle.pdl_word.specs.Words.{bit}
use Rattle.pdl_net.specs.declared.Net.TheVariants.{Reg}
use Rattle.pdl_net.specs.Circuit.{Circuit, State, HasReg, reg_width}
use Rattle.pdl_net.specs.Signal.{reg_signal}
use Rattle.pdl_net.specs.Meaning.{IsThere, signal}
use Rattle.pdl_order.specs.declared.OrderRegs.{OrderRegs}
use Rattle.pdl_order.specs.declared.layout.OrderLayout.{OrderLayout}
use Rattle.pdl_order.specs.Laws.{first_reg}

-- the register of the branches
abbrev pub sides_at : OrderLayout → ℕ
sides_at l = l.from + 1

-- where the registers of an order stand
abbrev pub layout_of : OrderRegs → OrderLayout
layout_of r = record { from = first_reg r; stages = r.stages }

-- the two registers are in a circuit
pub record HasWords (c : Circuit) (l : OrderLayout) : Type 0 where
  pub low : 1 ≤ l.stages
  pub high : l.stages ≤ 64
  pub small : l.from + 2 < 2 ^ 64
  pub used_there : IsThere c (Reg l.from)
  pub used : signal c (Reg l.from) ≡ reg_signal l.stages l.from
  pub has_used : HasReg c l.from
  pub used_width : reg_width c l.from ≡ l.stages
  pub sides_there : IsThere c (Reg (sides_at l))
  pub sides : signal c (Reg (sides_at l)) ≡ reg_signal l.stages (sides_at l)
  pub has_sides : HasReg c (sides_at l)
  pub sides_width : reg_width c (sides_at l) ≡ l.stages

-- an order's registers are in a circuit
pub record ArePlaced (c : Circuit) (r : OrderRegs) : Type 0 where
  pub count : length r.regs ≡ 2
  pub words : HasWords c (layout_of r)

-- the branches as a word
abbrev pub word_of : List Bool → ℕ
word_of [] = 0
word_of (x ∷ xs) = bit x + 2 * word_of xs

-- the value of a register in a state
abbrev pub reg_of : State → ℕ → ℕ
reg_of s k = slice_index s.regs k

-- the registers stand for a list of branches
pub record Stands (l : OrderLayout) (s : State) (xs : List Bool) : Type 0 where
  pub room : length xs ≤ l.stages
  pub used : reg_of s l.from + 1 ≡ 2 ^ length xs
  pub sides : reg_of s (sides_at l) ≡ word_of xs

-- what the registers of an order stand for
abbrev pub stands : OrderRegs → State → List Bool → Type 0
stands r = Stands (layout_of r)
