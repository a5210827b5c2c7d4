-- What a run of an accepted pipe promises.
use Rattle.std.proofs.Common.{◌≡◌, refl, Bool, List, [], ◌∷◌, ◌++◌}
use Rattle.std.specs.Prelude.{IsTrue}
use Rattle.pdl_semantics.specs.Tree.{Pipe}
use Rattle.pdl_semantics.specs.Flat
use Rattle.pdl_semantics.specs.Flat.{Arrays}
use Rattle.pdl_semantics.specs.Flatten.{flat}
use Rattle.pdl_semantics.specs.Machine.{State}
use Rattle.pdl_semantics.specs.Cycle as stated
use Rattle.pdl_semantics.specs.Promises.{Refines, Advances, KeepsPace, DifferInAdvice, AdviceIsIdle}
use Rattle.pdl_semantics.specs.UpdateFree.{UpdatesAreIdle}
use Rattle.pdl_semantics.specs.Sound.{is_sound}
use Rattle.pdl_semantics.proofs.UpdateFree.{updates_idle}
use Rattle.pdl_theory_turns.specs.Facts.{Sound}
use Rattle.pdl_rules.specs.Refusal.{KeepsRules}
use Rattle.pdl_source_paths.specs.Source.{is_source, is_named}
use Rattle.pdl_theory.proofs.StatedTheorems.{whole_refines, whole_advances, whole_paces, whole_idle, updates_alike}
use Rattle.pdl_source_paths.proofs.PipeFacts.{of_source}
use Rattle.pdl_source_strict.proofs.Paths.{paths_strict}
use Rattle.pdl_theory_states.proofs.EveryState

-- the state after a schedule with one cycle more is the state after that cycle
pub run_on : (p : Flat.Pipe) (st : State) (schedule : List (List Bool)) (bits : List Bool)
    → stated.state_after p st (schedule ++ bits ∷ []) ≡ stated.cycle p (stated.state_after p st schedule) bits
run_on p st [] bits = refl
run_on p st (b ∷ schedule) bits = run_on p (stated.cycle p st b) schedule bits

module _ (p : Pipe) (source : IsTrue (is_source p)) (letters : IsTrue (is_named p)) (kept : KeepsRules p) (image : Arrays) (schedule : List (List Bool)) where
  facts : Sound (flat p)
  facts = of_source p kept source letters

  -- each memory's commits have all sequential writes of the threads that ended, and are a prefix of the sequential writes
  pub refines : Refines (flat p) image schedule
  refines = whole_refines (flat p) facts image schedule

  -- after the schedule the oldest live thread moves in a cycle that is no wait
  pub advances : (bits : List Bool) → Advances (flat p) image schedule bits
  advances bits = whole_advances (flat p) facts image schedule bits

  -- at least as many threads end as cycles that are no waits, divided by the depth
  pub paces : KeepsPace (flat p) image schedule
  paces = whole_paces (flat p) facts image schedule

  -- what advisory memories hold changes no write
  pub idle : (other : Arrays) (replies : List (List Bool)) → DifferInAdvice (flat p) image other → AdviceIsIdle (flat p) image other schedule replies
  idle other replies differ = whole_idle (flat p) facts image other schedule replies differ

  -- updates change no write
  pub updated : (replies : List (List Bool)) → UpdatesAreIdle p image schedule replies
  updated replies = updates_idle p image schedule replies (updates_alike (flat p) facts image schedule replies)

  -- the state after the schedule is sound
  pub stays_sound : IsTrue
      (is_sound (flat p) image (stated.ended_in (stated.turns (flat p) image schedule)) (stated.state_after (flat p) (stated.first (flat p) image) schedule))
  stays_sound = EveryState.sound_state (flat p) facts (paths_strict p kept source) image schedule
