-- What the stages do to the locks, and what the law of a netlist sees of them.
use Rattle.std.specs.Prelude.{◌≡◌, ℕ, ◌<◌, List, [], map, length, slice_index_or, Option}
use Rattle.pdl_semantics.specs.Flat.{Pipe}
use Rattle.pdl_net.specs.declared.Net.{Net}
use Rattle.pdl_net.specs.Circuit.{Circuit}
use Rattle.pdl_net.specs.Signal.{Signal, no_signal}
use Rattle.pdl_net.specs.Meaning.{signal}
use Rattle.pdl_net.specs.HasWidth.{HasWidth}
use Rattle.pdl_lockapi.specs.Laws.{StepSignals}
use Rattle.pdl_pipe_exprs.specs.Nets.{signal_at}
use Rattle.pdl_law_parts.specs.Walk.{Walk, one, zero_bit}
use Rattle.pdl_law_parts.specs.Views.{View, Gates}
use Rattle.pdl_law_parts.specs.Ports.{step_of}
use Rattle.pdl_pipe_walk.specs.Parts.{Parts, walk_of, walk_in}
use Rattle.pdl_pipe_walk.specs.Sized.{IsWalk}
use Rattle.pdl_pipe_walk.specs.declared.locks.MemLock.{MemLock}
use Rattle.pdl_pipe_walk.specs.Locked.{Members, AreTickets, tickets_in}
use Rattle.pdl_pipe_locks.specs.declared.deeds.StageDeeds.{StageDeeds}
use Rattle.pdl_word.specs.Each.{Each}

-- a walk that does nothing
abbrev pub no_parts : Parts
no_parts =
    record {
      vars = [];
      marks = [];
      ready = one;
      reserves = [];
      puts = [];
      lettings = [];
      births = [];
      asks = [];
      advises = [];
      guess = [];
      fails = zero_bit;
      barrier = zero_bit;
    }

-- a stage of which only its tickets and what it does are known
abbrev pub view_with : (ℕ → Signal) → Walk → View
view_with tickets w = record { valid = zero_bit; kept = λ x. no_signal; tickets = tickets; begun = w; ended = w }

-- a stage by its nets in a circuit, of which only its tickets and what it does are known
abbrev pub view_in : Circuit → StageDeeds → View
view_in c d = view_with (tickets_in c d.tickets.now) (walk_in c d.ended.now)

-- the stages by their numbers
abbrev pub views_in : Circuit → List StageDeeds → ℕ → View
views_in c ds k = slice_index_or (map (view_in c) ds) k (view_with (λ m. no_signal) (walk_of no_parts))

-- whether the threads of the stages move, by their numbers
abbrev pub moves_in : Circuit → List StageDeeds → ℕ → Signal
moves_in c ds k = signal_at (map (λ (d : StageDeeds). signal c d.moves) ds) k

-- what the locks see of a squash: whether it happens, and from which ticket of each on it drops pending writes
abbrev pub gates_in : Circuit → Net → List Net → Gates
gates_in c squash tails = record { gate = λ k. one; kill = λ k. zero_bit; squash = signal c squash; tail = tickets_in c tails }

-- what they do to the lock of each memory, where these nets tell of a squash
abbrev pub steps_in : Circuit → Pipe → List StageDeeds → Net → List Net → ℕ → StepSignals
steps_in c p ds squash tails = step_of p (views_in c ds) (gates_in c squash tails) (moves_in c ds)

-- the nets of a squash and its tails are there, with 1 bit and with the bits of the locks' tickets
pub record AreSquashNets {T : Type 0} (l : Members T) (c : Circuit) (xs : List (Option (MemLock T))) (x : Net) (ts : List Net) : Type 0 where
  pub squash : HasWidth c x 1
  pub tails : AreTickets l c xs ts

-- the nets of a squash and its tails are those of what stands beside the stages of a netlist
pub record AreGatesOf (c : Circuit) (p : Pipe) (x : Net) (ts : List Net) (gates : Gates) : Type 0 where
  pub squash : gates.squash ≡ signal c x
  pub tail : (m : ℕ) → m < length p.mems → gates.tail m ≡ tickets_in c ts m

-- a stage's nets are there, with their widths
pub record IsDeed {T : Type 0} (l : Members T) (c : Circuit) (p : Pipe) (ws : List ℕ) (xs : List (Option (MemLock T))) (d : StageDeeds) : Type 0 where
  pub moves : HasWidth c d.moves 1
  pub walk : IsWalk c p ws d.ended.now
  pub tickets : AreTickets l c xs d.tickets.now

-- the nets of all stages are there, with their widths
pub record AreDeeds {T : Type 0} (l : Members T) (c : Circuit) (p : Pipe) (ws : List ℕ) (xs : List (Option (MemLock T))) (ds : List StageDeeds) : Type 0 where
  pub count : length ds ≡ length p.stages
  pub each : Each (IsDeed l c p ws xs) ds

-- these stages, and whether their threads move, are those of a netlist
pub record AreOf (c : Circuit) (ds : List StageDeeds) (vs : ℕ → View) (goes : ℕ → Signal) : Type 0 where
  pub moves : (k : ℕ) → k < length ds → goes k ≡ moves_in c ds k
  pub ended : (k : ℕ) → k < length ds → (vs k).ended ≡ (views_in c ds k).ended
  pub tickets : (k m : ℕ) → k < length ds → (vs k).tickets m ≡ (views_in c ds k).tickets m
