-- The stages of a circuit after their rows.
use Rattle.std.specs.Prelude.{ℕ, ◌<◌, ◌≤◌, List, length, map, Option}
use Rattle.pdl_semantics.specs.Stages.{in_stage}
use Rattle.pdl_form.specs.Form.{Form}
use Rattle.pdl_net.specs.Circuit.{Circuit}
use Rattle.pdl_net.specs.Signal.{Signal}
use Rattle.pdl_net.specs.Meaning.{signal}
use Rattle.pdl_port.specs.Laws.{AnswerSignals}
use Rattle.pdl_law_parts.specs.Walk.{Locks, zero_bit}
use Rattle.pdl_pipe_walk.specs.declared.locks.MemLock.{MemLock}
use Rattle.pdl_pipe_walk.specs.Parts.{walk_in}
use Rattle.pdl_pipe_walk.specs.Locked.{of_lock, tickets_in}
use Rattle.pdl_pipe_walk.specs.Sized.{IsWalk}
use Rattle.pdl_pipe_walk.specs.Steps.{AreSteps}
use Rattle.pdl_pipe_registers.specs.declared.nets.StageNets.{StageNets}
use Rattle.pdl_pipe_registers.specs.Stages.{end_of, HasRegisters, AreOwn, IsThereBegun, HasTickets, HasKept, HasAnswered, view_in, views_in, IsAt}

-- stage k of these, with its rows
pub record IsStaged (c : Circuit) (f : Form) (nexts : List Signal) (answers : ℕ → ℕ → AnswerSignals) (ls : Locks)
    (ss : List StageNets) (k : ℕ) (s : StageNets) : Type 0 where
  pub registers : HasRegisters c f nexts k s.regs
  pub own : AreOwn f k s.regs
  pub nets : IsThereBegun c f nexts s
  pub tickets : HasTickets c f.pipe nexts k s
  pub kept : HasKept c f nexts (views_in c ss) k s
  pub answered : HasAnswered c f answers k s
  pub rows : AreSteps c f.pipe ls (tickets_in c s.tickets) (in_stage k f.pipe.stmts) (view_in c s).begun (walk_in c s.end)
  pub walk : IsWalk c f.pipe f.widths s.end

-- all stages stand with their rows
abbrev pub AreStaged : Circuit → Form → List Signal → (ℕ → ℕ → AnswerSignals) → Locks → List StageNets → Type 0
AreStaged c f nexts answers ls ss = (k : ℕ) (s : StageNets) → k < length ss → IsAt ss k s → IsStaged c f nexts answers ls ss k s

-- the next tickets of the locks
abbrev pub next_signals : {T : Type 0} → Circuit → List (Option (MemLock T)) → List Signal
next_signals c xs = map (of_lock (λ x. signal c x.regs.ticket) zero_bit) xs

-- registers of the stages stand in order from a lower one up to a higher one
pub record AreApart (low high : ℕ) (ss : List StageNets) : Type 0 where
  pub from : (k : ℕ) (s : StageNets) → k < length ss → IsAt ss k s → low ≤ s.regs.valid
  pub to : (k : ℕ) (s : StageNets) → k < length ss → IsAt ss k s → end_of s.regs ≤ high
  pub apart : (j k : ℕ) (s t : StageNets) → j < k → k < length ss → IsAt ss j s → IsAt ss k t → end_of s.regs ≤ t.regs.valid
