-- The locks and the stages of a netlist in one cycle, as the machine's threads use and go through them.
use Rattle.std.specs.Prelude.{◌≡◌, ℕ, ◌<◌, ◌==◌, Bool, List, None, slice_index, slice_index_or, is_some, nat_lt}
use Rattle.pdl_word.specs.Words.{bit}
use Rattle.pdl_semantics.specs.Flat.{Pipe}
use Rattle.pdl_semantics.specs.Stages.{mem_at, list_any}
use Rattle.pdl_semantics.specs.Machine as machine
use Rattle.pdl_semantics.specs.Machine.{lock_of}
use Rattle.pdl_semantics.specs.Moves.{all_acts, movers}
use Rattle.pdl_semantics.specs.Cycle.{cycle, all_releases, list_two, squasher}
use Rattle.pdl_net.specs.Circuit.{State}
use Rattle.pdl_net.specs.Signal.{Signal}
use Rattle.pdl_lockapi.specs.Lock.{LockState, LockAct, filled_entries, step, Proper}
use Rattle.pdl_lockapi.specs.Laws.{StepSignals, Drives}
use Rattle.pdl_lockapi.specs.Forget.{forgotten_entries, lock_state_of}
use Rattle.pdl_law_parts.specs.Walk.{Locks}
use Rattle.pdl_law_parts.specs.Views.{View, Gates}
use Rattle.pdl_law_parts.specs.Ports.{step_of}
use Rattle.pdl_pipe_walk.specs.declared.locks.MemLock.{MemLock}
use Rattle.pdl_pipe_walk.specs.Locked.{Members}

-- as a cycle with these replies begins, a lock of this size, whose tickets have so many bits, stands for the machine's pending writes and words of memory m, and its ports do, in proper use, what the threads that move and a squash do to these
pub record IsUsedAs (for_state : State → LockState → Type 0) (size bits : ℕ) (p : Pipe) (m : ℕ) (ports : StepSignals)
    (s : State) (st : machine.State) (replies : List Bool) : Type 0 where
  pub base : ℕ
  -- the memory's words, which stand outside where it is delayed
  pub words : List ℕ
  pub same : (a : ℕ) → a < (mem_at p m).depth → st.arrays m a ≡ slice_index words a
  pub stands : for_state s (lock_state_of base (lock_of st m) words)
  pub act : LockAct
  pub drives : Drives bits ports s act
  pub proper : Proper size (lock_state_of base (lock_of st m) words) act
  -- the pending writes after this cycle's reservations and writes, and whether one is released, and a second one
  pub fills : filled_entries (lock_state_of base (lock_of st m) words) act ≡ forgotten_entries (list_two st (movers (all_acts p st replies)) m)
  pub releases : act.release ≡ nat_lt 0 (all_releases m (movers (all_acts p st replies)))
  pub seconds : act.release2 ≡ nat_lt 1 (all_releases m (movers (all_acts p st replies)))
  -- whether there is a squash, and the pending writes that are left at the end
  pub squashes : act.squash ≡ is_some (squasher (movers (all_acts p st replies)))
  pub left : (step (lock_state_of base (lock_of st m) words) act).entries ≡ forgotten_entries (lock_of (cycle p st replies) m)

-- the lock of memory m, of locks that are known by the numbers of their memories
abbrev pub IsUsedLock : Pipe → Locks → (ℕ → View) → Gates → (ℕ → Signal) → State → machine.State → List Bool → ℕ → Type 0
IsUsedLock p ls vs gates moves s st replies m = IsUsedAs (ls.stands m) (ls.size m) (ls.bits m) p m (step_of p vs gates moves m) s st replies

-- a lock of a lock module
abbrev pub IsUsed : {T : Type 0} → Members T → Pipe → ℕ → MemLock T → StepSignals → State → machine.State → List Bool → Type 0
IsUsed l p m x ports s st replies = IsUsedAs (l.stands x.lock x.regs) (l.size x.lock) (l.tickets x.lock) p m ports s st replies

-- in a cycle with these replies stage k of a netlist holds a thread where the machine's does, and a thread moves out of it where one moves there
pub record IsStageAs (view : View) (leaves : Signal) (s : State) (p : Pipe) (st : machine.State) (replies : List Bool) (k : ℕ) : Type 0 where
  pub holds : view.valid.value s ≡ bit (is_some (slice_index_or st.stages k None))
  pub moves : leaves.value s ≡ bit (list_any (λ a. a.stage == k) (movers (all_acts p st replies)))
