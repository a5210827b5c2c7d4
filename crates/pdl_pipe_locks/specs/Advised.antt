-- What the stages write to the arrays of advisory memories, and what of the circuit changes with that.
use Rattle.std.specs.Prelude.{◌≡◌, ℕ, ◌^◌, ◌<◌, true, false, List, ◌++◌, length}
use Rattle.pdl_semantics.specs.Flat.{Pipe, is_delayed}
use Rattle.pdl_semantics.specs.Stages.{mem_at}
use Rattle.pdl_net.specs.Circuit.{Circuit, HasReg, HasArray, array_width, array_depth, shapes_of}
use Rattle.pdl_net.specs.Meaning.{WriteSignal, IsThere, signal, next_signal, write_signals}
use Rattle.pdl_net.specs.HasWidth.{HasWidth}
use Rattle.pdl_net.specs.Growth.{Keeps}
use Rattle.pdl_law_parts.specs.Walk.{is_locked}
use Rattle.pdl_law_parts.specs.Rows.{IsUnlocked}
use Rattle.pdl_law_parts.specs.Places.{comb_place}
use Rattle.pdl_law_parts.specs.Ports.{all_advises}
use Rattle.pdl_pipe_walk.specs.declared.nets.AdvisingNet.{AdvisingNet}
use Rattle.pdl_pipe_locks.specs.declared.deeds.StageDeeds.{StageDeeds}
use Rattle.pdl_pipe_locks.specs.Deeds.{views_in, moves_in}

-- the array of each memory that answers at once is there, and that of one without lock has the memory's width and depth
pub record HavePlainArrays (c : Circuit) (p : Pipe) : Type 0 where
  pub has_array : (m : ℕ) → m < length p.mems → is_delayed (mem_at p m).kind ≡ false → HasArray c (comb_place p m)
  pub width : (m : ℕ) → m < length p.mems → is_delayed (mem_at p m).kind ≡ false → array_width c (comb_place p m) ≡ (mem_at p m).width
  pub depth : (m : ℕ) → m < length p.mems → is_locked p m ≡ false → is_delayed (mem_at p m).kind ≡ false
      → array_depth c (comb_place p m) ≡ (mem_at p m).depth

-- an advisory write that a stage makes: its nets are there, with the widths of a memory that answers at once and has no lock
pub record IsGivenAdvising (c : Circuit) (p : Pipe) (x : AdvisingNet) : Type 0 where
  pub low : x.mem < length p.mems
  pub unlocked : IsUnlocked p x.mem
  pub on : HasWidth c x.on 1
  pub addr : IsThere c x.addr
  pub reach : 2 ^ (signal c x.addr).width ≡ (mem_at p x.mem).depth
  pub value : HasWidth c x.value (mem_at p x.mem).width

-- the write ports of the array of memory m by what the stages do
abbrev pub advises_in : Circuit → List StageDeeds → ℕ → List WriteSignal
advises_in c ds m = all_advises m (views_in c ds) (moves_in c ds) (length ds) 0

-- the array of each memory without lock has these write ports after those that it had, and nothing else changes what it takes next
pub record ExtendsAdvice (p : Pipe) (old new : Circuit) (more : ℕ → List WriteSignal) : Type 0 where
  pub keeps : Keeps old new
  pub nexts : (r : ℕ) → HasReg old r → next_signal new r ≡ next_signal old r
  pub plain : (m : ℕ) → m < length p.mems → is_locked p m ≡ false → is_delayed (mem_at p m).kind ≡ false
      → write_signals new (comb_place p m) ≡ write_signals old (comb_place p m) ++ more m
  pub locked : (m : ℕ) → m < length p.mems → is_locked p m ≡ true → is_delayed (mem_at p m).kind ≡ false
      → write_signals new (comb_place p m) ≡ write_signals old (comb_place p m)
  pub ports : new.ports ≡ old.ports
  pub shapes : shapes_of new ≡ shapes_of old
