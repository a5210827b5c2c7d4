-- Registers of one width whose numbers follow one another.
use Rattle.std.specs.Prelude.{◌≡◌, ℕ, ◌+◌, ◌*◌, ◌<◌}
use Rattle.pdl_net.specs.declared.Net.TheVariants.{Reg}
use Rattle.pdl_net.specs.Circuit.{Circuit, HasReg, reg_width, reg_reset}
use Rattle.pdl_net.specs.Signal.{Signal, reg_signal}
use Rattle.pdl_net.specs.Meaning.{IsThere, signal}
use Rattle.pdl_lock_ring.specs.declared.choice.Registers.{Registers}
use Rattle.pdl_lock_ring.specs.declared.layout.RingLayout.{RingLayout}

-- a row of one for each slot
abbrev pub row_of : RingLayout → ℕ → ℕ → Registers
row_of l first width = record { first = first; count = l.size; width = width }

-- the signal of the k-th
abbrev pub register_of : Registers → ℕ → Signal
register_of r k = reg_signal r.width (r.first + k)

-- the first n of them are in a circuit
pub record HasRow (c : Circuit) (r : Registers) (n : ℕ) : Type 0 where
  pub there : (k : ℕ) → k < n → IsThere c (Reg (r.first + k))
  pub same : (k : ℕ) → k < n → signal c (Reg (r.first + k)) ≡ register_of r k
  pub has : (k : ℕ) → k < n → HasReg c (r.first + k)
  pub wide : (k : ℕ) → k < n → reg_width c (r.first + k) ≡ r.width

-- what the first n of them hold in the first cycle: numbers from this one on, each so much greater than the one before
pub record IsRowReset (c : Circuit) (r : Registers) (start step n : ℕ) : Type 0 where
  pub reset : (k : ℕ) → k < n → reg_reset c (r.first + k) ≡ start + step * k
