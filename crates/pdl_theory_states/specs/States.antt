-- The states that runs come to.
use Rattle.std.specs.Prelude.{ℕ, Bool, List}
use Rattle.pdl_semantics.specs.Flat.{Arrays, Pipe}
use Rattle.pdl_semantics.specs.Machine.{State}
use Rattle.pdl_semantics.specs.Cycle.{first, state_after, turns, ended_in}
use Rattle.pdl_theory_turns.specs.Facts.{Sound}
use Rattle.pdl_theory_states.specs.Strict.{Strict}

-- the state to which a run comes from this image, after as many cycles as there are replies
abbrev pub state_of_run : Pipe → Arrays → List (List Bool) → State
state_of_run p image schedule = state_after p (first p image) schedule

-- what holds in every state to which a run comes, of each pipe with the facts of an accepted one, whatever the image and the replies
abbrev pub InEveryState : (Pipe → State → Type 0) → Type 0
InEveryState Holds = (p : Pipe) → Sound p → Strict p → (image : Arrays) (schedule : List (List Bool)) → Holds p (state_of_run p image schedule)

-- the same of the image, the number of the turns that have ended, and the state
abbrev pub AfterEveryRun : (Pipe → Arrays → ℕ → State → Type 0) → Type 0
AfterEveryRun Holds =
    (p : Pipe) → Sound p → Strict p → (image : Arrays) (schedule : List (List Bool))
    → Holds p image (ended_in (turns p image schedule)) (state_of_run p image schedule)
