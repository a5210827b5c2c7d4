-- The netlist of a pipe, in signals.
use Rattle.std.specs.Prelude.{◌≡◌, ℕ, ◌==◌, ◌<◌, ◌≤◌, true, false, map, length, slice_index, slice_index_or, if◌then◌else◌}
use Rattle.pdl_semantics.specs.Flat.{Pipe, is_delayed, start_env}
use Rattle.pdl_semantics.specs.Stages.{in_stage, mem_at, reserve_stage, commit_stage}
use Rattle.pdl_semantics.specs.SecondWrites.{reserves_twice}
use Rattle.pdl_net.specs.declared.Dir.TheVariants.{Out}
use Rattle.pdl_net.specs.declared.Port.{Port}
use Rattle.pdl_net.specs.declared.Reg.{Reg}
use Rattle.pdl_net.specs.Circuit.{Circuit, State, Output, HasReg, HasArray, array_depth}
use Rattle.pdl_net.specs.Signal.{Signal, no_signal, mux_signal}
use Rattle.pdl_net.specs.Meaning.{signal, write_signals}
use Rattle.pdl_net.specs.Cycle.{next_regs}
use Rattle.pdl_net.specs.Well.{Suits}
use Rattle.pdl_net.specs.Growth.{Own}
use Rattle.pdl_lockapi.specs.Laws.{RoomLaw, TicketLaw, StepLaw}
use Rattle.pdl_lockapi.specs.Second.{Room2Law, Commit2Law}
use Rattle.pdl_lockapi.specs.Forget.{as_lock}
use Rattle.pdl_law_parts.specs.declared.Mark.{Mark}
use Rattle.pdl_law_parts.specs.Lives.{lives_from, mark_from, verifies_from}
use Rattle.pdl_law_parts.specs.Walk.{Locks, is_locked, one, zero_bit, IsFresh, AreRows}
use Rattle.pdl_law_parts.specs.Views.{View, Gates, Comer, moves_where, comers, first_coming}
use Rattle.pdl_law_parts.specs.Ports.{Shown, Commits, step_of, all_advises}

-- two signals have the same value; one has in the next cycle the value of the other; one begins with a value
abbrev pub Same : Circuit → Signal → Signal → Type 0
Same c f g = (s : State) → Suits c s → f.value s ≡ g.value s

-- a signal has in the next cycle the value that the other has in this one
abbrev pub Becomes : Circuit → Signal → Signal → Type 0
Becomes c f g = (s t : State) → Suits c s → t.regs ≡ next_regs c s → f.value t ≡ g.value s

-- a signal begins with this value, where the registers have their reset values
abbrev pub StartsAs : Circuit → Signal → ℕ → Type 0
StartsAs c f v = (s : State) → s.regs ≡ map (λ (r : Reg). r.reset) c.regs → f.value s ≡ v

-- a stage: its rows, what it begins with, and whether its thread moves. Only what is used later is brought into a stage
pub record IsStage (p : Pipe) (ls : Locks) (c : Circuit) (vs : ℕ → View) (gates : Gates) (moves : ℕ → Signal) (k : ℕ) : Type 0 where
  pub rows : AreRows c p ls (vs k).tickets (in_stage k p.stmts) (vs k).begun (vs k).ended
  pub fresh : IsFresh (vs k).begun
  pub leaves : Same c (moves k) (moves_where p vs gates.gate moves k)
  pub valid_start : StartsAs c (vs k).valid (if k == 0 then 1 else 0)
  pub valid : Becomes c (vs k).valid
      (first_coming (λ (o : Comer). one) (comers p vs moves k) (mux_signal (moves k) zero_bit (mux_signal (gates.kill k) zero_bit (vs k).valid)))
  pub vars : (x : ℕ) → lives_from p k x ≡ true → Becomes c ((vs k).kept x) (first_coming (λ (o : Comer). o.vars x) (comers p vs moves k) ((vs k).begun.vars x))
  pub marks : (mark : Mark) (m a : ℕ) → mark_from p k mark m a ≡ true
      → Becomes c ((vs k).begun.marks mark m a) (first_coming (λ (o : Comer). o.marks mark m a) (comers p vs moves k) ((vs k).begun.marks mark m a))
  pub guess_long : length (vs k).begun.guess ≡ length p.start
  pub guess : (i : ℕ) → i < length p.start → verifies_from p k ≡ true
      → Becomes c (slice_index_or (vs k).begun.guess i no_signal)
      (first_coming (λ (o : Comer). o.guess i) (comers p vs moves k) (slice_index_or (vs k).begun.guess i no_signal))
  -- a thread's ticket of a lock, with the bits of tickets, is the next one up to the stage of the reserves, and goes with it up to that of the releases
  pub tickets_wide : (m : ℕ) → is_locked p m ≡ true → ((vs k).tickets m).width ≡ ls.bits m
  pub tickets_first : (m : ℕ) → is_locked p m ≡ true → k ≤ reserve_stage p m → Same c ((vs k).tickets m) (ls.ticket m)
  pub tickets : (m : ℕ) → is_locked p m ≡ true → reserve_stage p m < k → k ≤ commit_stage p m
      → Becomes c ((vs k).tickets m) (first_coming (λ (o : Comer). o.tickets m) (comers p vs moves k) ((vs k).tickets m))

-- at the start stage 0 holds the first thread's arguments, and no location is marked
pub record IsStart (p : Pipe) (c : Circuit) (vs : ℕ → View) : Type 0 where
  pub long : length p.start ≤ p.vars
  pub vars : (x : ℕ) → lives_from p 0 x ≡ true → StartsAs c ((vs 0).kept x) (slice_index (start_env p p.start) x)
  pub marks : (mark : Mark) (m a : ℕ) → mark_from p 0 mark m a ≡ true → StartsAs c ((vs 0).begun.marks mark m a) 0

-- of a memory's lock what a cycle rests on: its own registers and arrays are there, and the laws of its nets
pub record GoesOn (p : Pipe) (ls : Locks) (c : Circuit) (vs : ℕ → View) (gates : Gates) (moves : ℕ → Signal) (own : Own)
    (commits : Commits) (m : ℕ) : Type 0 where
  pub kind : (mem_at p m).lock ≡ as_lock (ls.kind m) (ls.size m)
  pub regs : (r : ℕ) → own.from ≤ r → r < own.to → HasReg c r
  pub arrays : (i : ℕ) → own.first ≤ i → i < own.last → HasArray c i
  pub room : RoomLaw (ls.stands m) (ls.size m) (ls.room m)
  pub room2 : Room2Law (ls.stands m) (ls.size m) (ls.room2 m)
  pub ticket : TicketLaw (ls.stands m) (ls.bits m) (ls.ticket m)
  pub step : StepLaw (ls.stands m) (ls.size m) (ls.bits m) own c (step_of p vs gates moves m)
      commits.first.enable commits.first.addr commits.first.value
  pub second : Commit2Law (ls.stands m) (ls.size m) (ls.bits m) (step_of p vs gates moves m)
      commits.second.enable commits.second.addr commits.second.value

-- the stages and the locks, whatever stands beside them; a memory that answers at once has an array, which the advisory writes of the stages alone write where it has no lock
pub record IsLaid (p : Pipe) (ls : Locks) (vs : ℕ → View) (gates : Gates) (moves : ℕ → Signal) (c : Circuit) : Type 0 where
  pub stages : (k : ℕ) → k < length p.stages → IsStage p ls c vs gates moves k
  pub begins : IsStart p c vs
  pub owns : ℕ → Own
  pub commits : ℕ → Commits
  pub twice : (m : ℕ) → m < length p.mems → ls.twice m ≡ reserves_twice m p.stmts
  pub locks : (m : ℕ) → is_locked p m ≡ true → GoesOn p ls c vs gates moves (owns m) (commits m) m
  pub arrays : (m : ℕ) → m < length p.mems → is_delayed (mem_at p m).kind ≡ false → HasArray c (ls.array m)
  pub deep : (m : ℕ) → m < length p.mems → is_locked p m ≡ false → is_delayed (mem_at p m).kind ≡ false → array_depth c (ls.array m) ≡ (mem_at p m).depth
  pub advised : (m : ℕ) → m < length p.mems → is_locked p m ≡ false → is_delayed (mem_at p m).kind ≡ false
      → write_signals c (ls.array m) ≡ all_advises m vs moves (length p.stages) 0

-- an output of a circuit with the signal of its net
abbrev pub shown_in : Circuit → Output → Shown
shown_in c o = record { name = o.name; signal = signal c o.net }

-- the port of a circuit that an output is, with the width of its net
abbrev pub port_in : Circuit → Output → Port
port_in c o = record { name = o.name; width = (signal c o.net).width; dir = Out o.net }
