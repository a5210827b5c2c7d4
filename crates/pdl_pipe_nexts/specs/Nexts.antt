-- What the registers of a stage take next.
use Rattle.std.specs.Prelude.{◌≡◌, ℕ, suc, ◌+◌, ◌<◌, List, length, slice_index_or, Option, Some, None}
use Rattle.pdl_kit.specs.declared.seq.Seq.{Seq}
use Rattle.pdl_net.specs.declared.Net.{Net}
use Rattle.pdl_net.specs.declared.Net.TheVariants.{Reg as RegNet}
use Rattle.pdl_net.specs.Circuit.{Circuit, reg_width}
use Rattle.pdl_net.specs.Signal.{Signal, mux_signal, reg_signal}
use Rattle.pdl_net.specs.Meaning.{signal, IsThere, next_signal}
use Rattle.pdl_net.specs.Growth.{Own}
use Rattle.pdl_pipe_exprs.specs.Nets.{NetsThere, signals_in, signal_at}
use Rattle.pdl_law_parts.specs.Walk.{zero_bit}
use Rattle.pdl_law_parts.specs.Views.{comers, first_coming}
use Rattle.pdl_pipe_registers.specs.declared.nets.Item.{Item}
use Rattle.pdl_pipe_registers.specs.declared.nets.Item.TheVariants.{Var, Mark, Ticket, Guess}
use Rattle.pdl_pipe_registers.specs.declared.nets.StageNets.{StageNets}
use Rattle.pdl_pipe_registers.specs.Items.{item_at, item_width}
use Rattle.pdl_pipe_registers.specs.Stages.{reg_of, IsAt}
use Rattle.pdl_pipe_nexts.specs.declared.line.StageLine.{StageLine}
use Rattle.pdl_pipe_nexts.specs.Lines.{line_form, line_pipe, line_views, line_moves, line_kills, ValueAs}
use Rattle.pdl_pipe_nexts.specs.Brings.{brought_signal}

-- the registers of a range
abbrev pub regs_of : ℕ → ℕ → Own
regs_of from to = record { from = from; to = to; first = 0; last = 0 }

-- what it holds where no thread comes: an item is kept, a variable with this cycle's answer
abbrev pub kept_signal : Circuit → StageNets → ℕ → Item → Signal
kept_signal c s i (Var x) = signal_at (signals_in c s.begun) x
kept_signal c s i (Mark _ _ _) = signal c (RegNet (reg_of s.regs i))
kept_signal c s i (Ticket m) = signal c (RegNet (reg_of s.regs i))
kept_signal c s i (Guess k) = signal c (RegNet (reg_of s.regs i))

-- whether a stage still holds its thread: unless that moves or is removed
abbrev pub staying : Circuit → StageLine → ℕ → StageNets → Signal
staying c x k s = mux_signal (line_moves c x k) zero_bit (mux_signal (line_kills c x k) zero_bit (reg_signal 1 s.regs.valid))

-- what the first that comes into stage k brings, else this
abbrev pub arriving : Circuit → StageLine → ℕ → Option Item → Signal → Signal
arriving c x k what rest = first_coming (brought_signal what) (comers (line_pipe x) (line_views c x) (line_moves c x) k) rest

-- nets for the registers of stage k: the first tells whether it holds a thread next, and those of the items follow
pub record AreNexts (a c : Circuit) (x : StageLine) (k : ℕ) (s : StageNets) (nets : List Net) : Type 0 where
  pub there : NetsThere c nets
  pub count : length nets ≡ suc (length s.regs.items)
  pub valid_wide : (signal_at (signals_in c nets) 0).width ≡ 1
  pub valid : ValueAs (signal_at (signals_in c nets) 0) (arriving a x k None (staying a x k s))
  pub kept_wide : (i : ℕ) → i < length s.regs.items
      → (signal_at (signals_in c nets) (suc i)).width ≡ item_width (line_form x) (signals_in a x.shared.now.next) (item_at s.regs.items i)
  pub kept : (i : ℕ) → i < length s.regs.items
      → ValueAs (signal_at (signals_in c nets) (suc i)) (arriving a x k (Some (item_at s.regs.items i)) (kept_signal a s i (item_at s.regs.items i)))

-- the registers of stage k take it, by the nets as they stood in circuit a
pub record TakesNext (a c : Circuit) (x : StageLine) (k : ℕ) (s : StageNets) : Type 0 where
  pub valid : ValueAs (next_signal c s.regs.valid) (arriving a x k None (staying a x k s))
  pub kept : (i : ℕ) → i < length s.regs.items
      → ValueAs (next_signal c (reg_of s.regs i)) (arriving a x k (Some (item_at s.regs.items i)) (kept_signal a s i (item_at s.regs.items i)))

-- this item, the i-th one with a register, has that register, or is a variable of the stage
abbrev pub IsKeptNow : Circuit → StageNets → ℕ → Item → Type 0
IsKeptNow c s i (Var x) = x < length s.begun
IsKeptNow c s i (Mark _ _ _) = IsThere c (RegNet (reg_of s.regs i))
IsKeptNow c s i (Ticket m) = IsThere c (RegNet (reg_of s.regs i))
IsKeptNow c s i (Guess k) = IsThere c (RegNet (reg_of s.regs i))

-- the i-th of the items that have registers in a stage has its register, or is a variable of the stage
abbrev pub IsKeptItem : Circuit → StageNets → ℕ → Type 0
IsKeptItem c s i = IsKeptNow c s i (item_at s.regs.items i)

-- the nets of what the registers of all stages take next
pub record AllNexts (a c : Circuit) (x : StageLine) (nexts : List (Seq Net)) : Type 0 where
  pub count : length nexts ≡ length x.stages.now
  pub each : (k : ℕ) (s : StageNets) (nets : Seq Net) → k < length nexts → IsAt x.stages.now k s → slice_index_or nexts k nets ≡ nets → AreNexts a c x k s nets

-- nets that fit the registers of a stage, and those take them
abbrev pub FitsRegs : Circuit → StageNets → List Net → Type 0
FitsRegs c s nets = (i : ℕ) → i < length nets → (s.regs.valid + i < length c.regs) × ((signal_at (signals_in c nets) i).width ≡ reg_width c (s.regs.valid + i))

-- the registers of a stage take next what these nets mean
abbrev pub AreSet : Circuit → Circuit → StageNets → List Net → Type 0
AreSet a c s nets = (i : ℕ) → i < length nets → next_signal c (s.regs.valid + i) ≡ signal_at (signals_in a nets) i
