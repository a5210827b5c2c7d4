-- The theorems of the stated machine, in the whole language: what is proved of the derived machine, carried to it by the simulation.
use Rattle.std.proofs.Common.{ap, ℕ, Bool, List, [], ◌∷◌, ◌++◌}
use Rattle.pdl_semantics.specs.Flat.{Arrays, Pipe}
use Rattle.pdl_semantics.specs.Cycle
use Rattle.pdl_semantics.specs.Promises.{Refines, Advances, KeepsPace, DifferInAdvice, AdviceIsIdle}
use Rattle.pdl_semantics.specs.Updates.{not_updated, CommitsAlike}
use Rattle.pdl_semantics.proofs.Updates.{commits_alike}
use Rattle.pdl_semantics.proofs.Advice.{advice_is_idle}
use Rattle.pdl_theory_turns.specs.Derived
use Rattle.pdl_theory_turns.specs.Derived.{Hint}
use Rattle.pdl_theory_turns.specs.Facts.{Sound}
use Rattle.pdl_theory_turns.specs.Scans.{is_plain}
use Rattle.pdl_theory_turns.specs.Simulation.{SameTurns, hints_of}
use Rattle.pdl_theory_simulation.proofs.CarriedTheorems.{carries_refines, carries_advances, carries_pace}
use Rattle.pdl_theory_turns.proofs.CourseOf.{course}
use Rattle.pdl_theory.proofs.Follows
use Rattle.pdl_theory_simulation.proofs.AcceptedFacts.{sound_flows}
use Rattle.pdl_theory.proofs.Rates
use Rattle.pdl_theory_simulation.proofs.Foretold.{same_turns}
use Rattle.pdl_theory.proofs.NotUpdated.{sound_left}

module _ (p : Pipe) (sound : Sound p) where
  -- what the threads of a run say
  abbrev hints : Arrays → List (List Bool) → ℕ → Hint
  hints image schedule = hints_of p (Cycle.first p image) schedule

  -- in each cycle of a run both machines have the same ports and waits
  pub whole_same : (image : Arrays) (schedule : List (List Bool))
      → SameTurns p (Cycle.turns p image schedule) (Derived.turns p image (hints_of p (Cycle.first p image) schedule) schedule)
  whole_same = same_turns p (sound_flows p sound)

  -- every run of the stated machine refines the sequential run
  pub whole_refines : (image : Arrays) (schedule : List (List Bool)) → Refines p image schedule
  whole_refines image schedule =
      carries_refines p (sound_flows p sound) image schedule (Follows.refines p (course p sound) image (hints image (schedule ++ [])) schedule)
      (λ m n e. Follows.plain_writes p (course p sound) m n image p.start (ap is_plain e))

  -- after any schedule the oldest thread of the stated machine moves in a cycle that isn't a wait
  pub whole_advances : (image : Arrays) (schedule : List (List Bool)) (bits : List Bool) → Advances p image schedule bits
  whole_advances image schedule bits =
      carries_advances p (sound_flows p sound) image schedule bits
      (Follows.advances p (course p sound) image (hints image (schedule ++ bits ∷ [])) schedule bits)

  -- at least as many threads end in a run of the stated machine as its cycles that are no waits, divided by the depth
  pub whole_paces : (image : Arrays) (schedule : List (List Bool)) → KeepsPace p image schedule
  whole_paces image schedule = carries_pace p (sound_flows p sound) image schedule (Rates.keeps_pace p sound image (hints image (schedule ++ [])) schedule)

  -- what advisory memories hold changes no write
  pub whole_idle : (image other : Arrays) (schedule replies : List (List Bool)) → DifferInAdvice p image other → AdviceIsIdle p image other schedule replies
  whole_idle image other schedule replies differ =
      advice_is_idle p image other schedule replies sound.advice differ (whole_refines image schedule) (whole_refines other replies)

-- with its updates or without them a pipe commits the same, only sooner or later
pub updates_alike : (p : Pipe) → Sound p → (image : Arrays) (schedule schedule' : List (List Bool)) → CommitsAlike p image schedule schedule'
updates_alike p sound image schedule schedule' =
    commits_alike p image schedule schedule' (whole_refines p sound image schedule) (whole_refines (not_updated p) (sound_left p sound) image schedule')
