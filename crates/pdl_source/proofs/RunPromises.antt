-- What holds of the runs of the pipe of a text that keeps the rules.
use Rattle.std.proofs.Common.{ℕ, Bool, List}
use Rattle.std.specs.Prelude.{IsTrue}
use Rattle.pdl_semantics.specs.Tree.{Pipe}
use Rattle.pdl_semantics.specs.Flat.{Arrays}
use Rattle.pdl_semantics.specs.Flatten.{flat}
use Rattle.pdl_semantics.specs.Cycle.{first, state_after, turns, ended_in}
use Rattle.pdl_semantics.specs.Promises.{Refines, Advances, KeepsPace}
use Rattle.pdl_semantics.specs.Sound.{is_sound}
use Rattle.pdl_theory_turns.specs.Facts.{Sound}
use Rattle.pdl_rules.specs.Refusal.{KeepsRules}
use Rattle.pdl_syntax_grammar.specs.Text.{IsText}
use Rattle.pdl_theory.proofs.StatedTheorems.{whole_refines, whole_advances, whole_paces}
use Rattle.pdl_source_paths.proofs.PipeFacts.{of_source}
use Rattle.pdl_source_strict.proofs.Paths.{paths_strict}
use Rattle.pdl_theory_states.proofs.EveryState
use Rattle.pdl_source.proofs.Texts.{source_of, named_of}

module _ (text : List ℕ) (p : Pipe) (read : IsText text p) (kept : KeepsRules p) (image : Arrays) (schedule : List (List Bool)) where
  facts : Sound (flat p)
  facts = of_source p kept (source_of text p read) (named_of text p read)

  -- each memory's commits have all sequential writes of the threads that ended, and are a prefix of the sequential writes
  pub refines : Refines (flat p) image schedule
  refines = whole_refines (flat p) facts image schedule

  -- after the schedule the oldest live thread moves in a cycle that is no wait
  pub advances : (bits : List Bool) → Advances (flat p) image schedule bits
  advances bits = whole_advances (flat p) facts image schedule bits

  -- at least as many threads end as cycles that are no waits, divided by the depth
  pub paces : KeepsPace (flat p) image schedule
  paces = whole_paces (flat p) facts image schedule

  -- the state after the schedule is sound
  pub stays_sound : IsTrue (is_sound (flat p) image (ended_in (turns (flat p) image schedule)) (state_after (flat p) (first (flat p) image) schedule))
  stays_sound = EveryState.sound_state (flat p) facts (paths_strict p kept (source_of text p read)) image schedule
