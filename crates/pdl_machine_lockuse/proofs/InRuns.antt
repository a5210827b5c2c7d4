-- The same of each state that a run comes to.
use Rattle.std.proofs.Common.{ℕ, Bool, List, [], ◌∷◌, ◌++◌}
use Rattle.pdl_semantics.specs.Flat.{Arrays, Pipe}
use Rattle.pdl_semantics.specs.Machine.{State}
use Rattle.pdl_semantics.specs.Moves.{all_acts}
use Rattle.pdl_semantics.specs.Cycle.{first, state_after}
use Rattle.pdl_theory_turns.specs.Derived
use Rattle.pdl_theory_turns.specs.Facts.{Sound}
use Rattle.pdl_machine_facts.specs.Cycle.{IsByStages}
use Rattle.pdl_machine_facts.specs.Use.{IsInUse}
use Rattle.pdl_theory_states.specs.Strict.{Strict}
use Rattle.pdl_theory_states.specs.Use.{AllActs, ShiftsTail, ReleasesWritten}
use Rattle.pdl_theory_turns.specs.Simulation.{hints_of}
use Rattle.pdl_theory_states.proofs.ReachedStates.{Reached, reached}
use Rattle.pdl_machine_lockuse.specs.Careful.{Careful}
use Rattle.pdl_machine_lockuse.specs.Use.{ReleasesOwn, ReleasesOlder, FindsAll, KeepsTail, LeavesTail, Cuts, IsSpared, WritesOnce, IsLet, AwaitsOlder}
use Rattle.pdl_machine_lockuse.proofs.InUse.{by, spared, owns, written, older_released, awaits_released, tails, finds_all, tails_kept, tails_left, cuts, once, lets_in, in_use}
use Rattle.pdl_theory_simulation.proofs.AcceptedFacts.{sound_flows}
use Rattle.pdl_theory_simulation.proofs.Orders.{AllForetold}
use Rattle.pdl_theory_simulation.proofs.Foretold.{foretold_here}

module _ (p : Pipe) (sound : Sound p) (strict : Strict p) (image : Arrays) (before : List (List Bool)) (bits : List Bool) where
  abbrev now : State
  now = state_after p (first p image) before

  abbrev twin : Derived.State
  twin = Derived.state_after p (Derived.first p image (hints_of p (first p image) (before ++ bits ∷ []))) before

  -- the live threads of both, which were given what they say in this cycle
  here : Reached p sound strict now twin (bits ∷ [])
  here = reached p sound strict image before (bits ∷ [])

  told : AllForetold p (sound_flows p sound) now twin bits here.sim.arrays here.live
  told = foretold_here p (sound_flows p sound) now twin bits here.live here.sim [] here.foretells

  -- the threads use the locks as the rules have it, where the pipe is careful
  pub in_use_here : Careful p → IsInUse p (state_after p (first p image) before) bits
  in_use_here careful = in_use p sound strict now twin bits here.live here.sim here.whole told careful

  -- each read and each write finds the block of its location ready, where the pipe is careful
  pub lets_here : Careful p → AllActs (IsLet p (state_after p (first p image) before)) (all_acts p (state_after p (first p image) before) bits)
  lets_here careful = lets_in p sound strict now twin bits here.live here.sim here.whole told careful

  -- the cycle goes stage by stage and memory by memory
  pub stages_here : IsByStages p (state_after p (first p image) before) bits
  stages_here = by p sound strict now twin bits here.live here.sim here.whole told

  -- no thread that moves is removed
  pub spared_here : AllActs (IsSpared p (state_after p (first p image) before) bits) (all_acts p (state_after p (first p image) before) bits)
  spared_here = spared p sound strict now twin bits here.live here.sim here.whole told

  -- what a thread that moves releases are its own pending writes, the oldest ones, which have their values
  pub owns_here : (m : ℕ) → AllActs (ReleasesOwn p (state_after p (first p image) before) bits m) (all_acts p (state_after p (first p image) before) bits)
  owns_here m = owns p sound strict now twin bits here.live here.sim here.whole told m

  -- where writes of the memory are released, as many of the oldest pending ones have their values
  pub written_here : (m : ℕ) → ReleasesWritten p (state_after p (first p image) before) bits m
  written_here m = written p sound strict now twin bits here.live here.sim here.whole told m

  -- a thread that moves writes each of its pending writes at most once, in the order of its reservations
  pub once_here : (m : ℕ) → AllActs (WritesOnce p (state_after p (first p image) before) bits m) (all_acts p (state_after p (first p image) before) bits)
  once_here m = once p sound strict now twin bits here.live here.sim here.whole told m

  -- what is released is no younger than a thread up to the stage of the memory's releases
  pub older_here : (m : ℕ) → AllActs (ReleasesOlder p (state_after p (first p image) before) bits m) (all_acts p (state_after p (first p image) before) bits)
  older_here m = older_released p sound strict now twin bits here.live here.sim here.whole told m

  -- what is released is no younger than a thread that awaits a read of the memory
  pub awaits_here : (m : ℕ) → AllActs (AwaitsOlder p (state_after p (first p image) before) bits m) (all_acts p (state_after p (first p image) before) bits)
  awaits_here m = awaits_released p sound strict now twin bits here.live here.sim here.whole told m

  -- up to V a thread's own and older pending writes become one fewer at each release
  pub tails_here : (m : ℕ) → AllActs (ShiftsTail p (state_after p (first p image) before) bits m) (all_acts p (state_after p (first p image) before) bits)
  tails_here m = tails p sound strict now twin bits here.live here.sim here.whole told m

  -- up to the stage of the reserves all pending writes are a thread's own or older, those of this cycle included
  pub all_here : (m : ℕ) → AllActs (FindsAll p (state_after p (first p image) before) bits m) (all_acts p (state_after p (first p image) before) bits)
  all_here m = finds_all p sound strict now twin bits here.live here.sim here.whole told m

  -- past the stage of the reserves the cycle appends nothing to a thread's own and older pending writes
  pub kept_here : (m : ℕ) → AllActs (KeepsTail p (state_after p (first p image) before) bits m) (all_acts p (state_after p (first p image) before) bits)
  kept_here m = tails_kept p sound strict now twin bits here.live here.sim here.whole told m

  -- a squash that leaves a thread leaves its own and all older pending writes
  pub left_here : (m : ℕ) → AllActs (LeavesTail p (state_after p (first p image) before) bits m) (all_acts p (state_after p (first p image) before) bits)
  left_here m = tails_left p sound strict now twin bits here.live here.sim here.whole told m

  -- a squash leaves of the memory's pending writes a front, those of the squasher and of older threads
  pub cuts_here : (m : ℕ) → Cuts p (state_after p (first p image) before) bits m
  cuts_here m = cuts p sound strict now twin bits here.live here.sim here.whole told m
