-- What the calls of an order ensure.
use Rattle.std.specs.Prelude.{◌≡◌, ℕ, ◌+◌, ◌<◌, ◌≤◌, Bool, List, [], ◌∷◌, length, slice_index, nat_eq}
use Rattle.pdl_word.specs.Words.{bit}
use Rattle.pdl_net.specs.Circuit.{Circuit, State, HasReg}
use Rattle.pdl_net.specs.Signal.{Signal}
use Rattle.pdl_net.specs.Meaning.{signal}
use Rattle.pdl_net.specs.HasWidth.{HasWidth}
use Rattle.pdl_net.specs.Growth.{Own}
use Rattle.pdl_lockapi.specs.Laws.{IsReset, IsNext}
use Rattle.pdl_order.specs.declared.OrderRegs.{OrderRegs}
use Rattle.pdl_order.specs.declared.OrderPorts.{OrderPorts}
use Rattle.pdl_order.specs.Order.{OrderAct, step, Proper}

-- the registers of an order: from this number up to that one
abbrev pub first_reg : OrderRegs → ℕ
first_reg r = slice_index r.regs 0

-- the number after that of an order's last register
abbrev pub end_reg : OrderRegs → ℕ
end_reg r = first_reg r + length r.regs

-- the registers of an order, which has no array
abbrev pub own : OrderRegs → Own
own r = record { from = first_reg r; to = end_reg r; first = 0; last = 0 }

-- the registers are new and follow one another
pub record IsFragment (old new : Circuit) (r : OrderRegs) : Type 0 where
  pub some : 1 ≤ length r.regs
  pub listed : (k : ℕ) → k < length r.regs → slice_index r.regs k ≡ first_reg r + k
  pub above : length old.regs ≤ first_reg r
  pub has_reg : (k : ℕ) → first_reg r ≤ k → k < end_reg r → HasReg new k

-- the nets of the first entry and of emptiness are there, with 1 bit
pub record HasOrderNets (c : Circuit) (r : OrderRegs) : Type 0 where
  pub first : HasWidth c r.first 1
  pub empty : HasWidth c r.empty 1

-- registers at reset stand for no thread inside
pub record StartLaw (stands : State → List Bool → Type 0) (c : Circuit) (o : Own) : Type 0 where
  pub starts : (s : State) → IsReset c o.from o.to s → stands s []

-- the nets say whether no thread is inside, and else whether the oldest one took the first branch
pub record FirstLaw (stands : State → List Bool → Type 0) (first empty : Signal) : Type 0 where
  pub empties : (s : State) (xs : List Bool) → stands s xs → empty.value s ≡ bit (nat_eq (length xs) 0)
  pub leads : (s : State) (x : Bool) (xs : List Bool) → stands s (x ∷ xs) → first.value s ≡ bit x

-- what the nets of a step mean
pub record StepSignals : Type 0 where
  pub entered_first : Signal
  pub entered_second : Signal
  pub left : Signal
  pub emptied : Signal

-- what the nets of a step mean in a circuit
abbrev pub step_signals : Circuit → OrderPorts → StepSignals
step_signals c p = record {
  entered_first = signal c p.entered_first;
  entered_second = signal c p.entered_second;
  left = signal c p.left;
  emptied = signal c p.emptied;
}

-- the nets of a step are there, each of 1 bit
pub record HasPorts (c : Circuit) (p : OrderPorts) : Type 0 where
  pub entered_first : HasWidth c p.entered_first 1
  pub entered_second : HasWidth c p.entered_second 1
  pub left : HasWidth c p.left 1
  pub emptied : HasWidth c p.emptied 1

-- in this state the nets of a step do this to an order
pub record Drives (f : StepSignals) (s : State) (a : OrderAct) : Type 0 where
  pub entered_first : f.entered_first.value s ≡ bit a.entered_first
  pub entered_second : f.entered_second.value s ≡ bit a.entered_second
  pub left : f.left.value s ≡ bit a.left
  pub emptied : f.emptied.value s ≡ bit a.emptied

-- in a cycle of proper use the next state stands for the step's
pub record StepLaw (stands : State → List Bool → Type 0) (n : ℕ) (o : Own) (c : Circuit) (f : StepSignals) : Type 0 where
  pub next : (s t : State) (xs : List Bool) (a : OrderAct) → stands s xs → Drives f s a → Proper n xs a → IsNext c o s t → stands t (step xs a)
