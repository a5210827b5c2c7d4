-- A machine that runs, between two cycles.
use Rattle.std.specs.Prelude.{◌≡◌, ℕ, ◌+◌, ◌<◌, ◌≤◌, ◌^◌, Bool, List, [], IfSome, length, slice_index, slice_index_or}
use Rattle.pdl_semantics.specs.Flat.{Lock, Arrays, Pipe}
use Rattle.pdl_semantics.specs.Stages.{mem_at}
use Rattle.pdl_semantics.specs.Machine.{State, fork_of}
use Rattle.pdl_semantics.specs.Cycle.{first, state_after}
use Rattle.pdl_lockapi.specs.Sizes.{size_of}
use Rattle.pdl_machine_facts.specs.Slots.{LeadsOn}
use Rattle.pdl_machine_facts.specs.Cycle.{IsByStages}
use Rattle.pdl_machine_facts.specs.Use.{IsInUse}
use Rattle.pdl_semantics.specs.SecondWrites.{all_twice}
use Rattle.pdl_form.specs.Form.{Form}
use Rattle.pdl_form_types.specs.Stmts.{IsTypedForm}
use Rattle.pdl_machine_pending.specs.Memory.{Memory}
use Rattle.pdl_machine_run.specs.declared.stage.Stage as r_stage
use Rattle.pdl_machine_run.specs.declared.beside.Beside as r_beside
use Rattle.pdl_machine_run.specs.View.{thread_in}
use Rattle.pdl_machine_run.specs.StageDeeds.{memory_at}
use Rattle.pdl_machine_run.specs.Typed.{IsFine, AreMemories}
use Rattle.pdl_machine_run.specs.Ready.{AreStages, AreOrders}

-- a pipe that this machine runs: its flat form is typed, threads go on to later stages, and in each state of a run the locks are used as they ask, and a fork's list is no longer than there are stages
pub record IsRunnable (f : Form) : Type 0 where
  pub typed : IsTypedForm f
  pub leads : LeadsOn f.pipe
  pub some : 1 ≤ length f.pipe.stages
  pub by : (image : Arrays) (before : List (List Bool)) (bits : List Bool) → IsByStages f.pipe (state_after f.pipe (first f.pipe image) before) bits
  pub used : (image : Arrays) (before : List (List Bool)) (bits : List Bool) → IsInUse f.pipe (state_after f.pipe (first f.pipe image) before) bits
  pub forked : (image : Arrays) (before : List (List Bool)) (k : ℕ) → length (fork_of (state_after f.pipe (first f.pipe image) before) k) ≤ length f.pipe.stages

-- a state that a run comes to
abbrev pub IsReached : Pipe → State → Type 0
IsReached p st = (image : Arrays) × (schedule : List (List Bool)) × (st ≡ state_after p (first p image) schedule)

-- memories with room for what may be pending and two reservations more
pub record AreRoomy (p : Pipe) (xs : List Memory) : Type 0 where
  pub memories : AreMemories p xs
  pub room : (m : ℕ) → m < length p.mems → size_of (memory_at xs m).lock + 2 ≤ (memory_at xs m).capacity
  pub few : (m : ℕ) → m < length p.mems → length (memory_at xs m).pending ≤ size_of (memory_at xs m).lock

-- an image of a pipe: for each memory as many words as it has, of its width
pub record AreImages (p : Pipe) (image : List (List ℕ)) : Type 0 where
  pub count : length image ≡ length p.mems
  pub depth : (m : ℕ) → m < length p.mems → length (slice_index_or image m []) ≡ (mem_at p m).depth
  pub words : (m a : ℕ) → m < length p.mems → slice_index (slice_index_or image m []) a < 2 ^ (mem_at p m).width

-- a memory with these words and this lock, nothing pending, and room for what may be pending and two reservations more
pub record IsFirst (l : Lock) (words : List ℕ) (x : Memory) : Type 0 where
  pub words_are : x.words ≡ words
  pub lock : x.lock ≡ l
  pub pending : x.pending ≡ []
  pub room : size_of l + 2 ≤ x.capacity

-- what stands beside the stages of a pipe, with room for a cycle
pub record IsBeside (p : Pipe) (b : r_beside.Beside) : Type 0 where
  pub roomy : AreRoomy p b.memories.items
  pub twice : b.twice.items ≡ all_twice p.stmts 0 p.mems
  pub requests : length b.requests.items ≡ length p.mems
  pub orders : length b.orders.items ≡ length p.stages
  pub long : AreOrders (length p.stages) b.orders.items

-- stages that are wide enough, with threads that fit
pub record AreReady (f : Form) (zs : List r_stage.Stage) : Type 0 where
  pub count : length zs ≡ length f.pipe.stages
  pub wide : AreStages f zs
  pub fine : (k : ℕ) (d : r_stage.Stage) → k < length zs → IfSome (thread_in (slice_index_or zs k d).slot) (IsFine f k)
