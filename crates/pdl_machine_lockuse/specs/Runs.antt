-- What holds in each cycle of each run, whatever the image and the replies, and of each thread in it.
use Rattle.std.specs.Prelude.{Bool, List}
use Rattle.pdl_semantics.specs.Flat.{Arrays, Pipe}
use Rattle.pdl_semantics.specs.Machine.{State}
use Rattle.pdl_semantics.specs.Moves.{Act, all_acts}
use Rattle.pdl_semantics.specs.Cycle.{first, state_after}
use Rattle.pdl_theory_states.specs.Use.{AllActs}

-- in each cycle of each run this holds of the state before the cycle and of its replies
abbrev pub InEachCycle : Pipe → (State → List Bool → Type 0) → Type 0
InEachCycle p P = (image : Arrays) (before : List (List Bool)) (bits : List Bool) → P (state_after p (first p image) before) bits

-- in each cycle of each run this holds of each act
abbrev pub OfEachAct : Pipe → (State → List Bool → Act → Type 0) → Type 0
OfEachAct p P = InEachCycle p (λ st bits. AllActs (P st bits) (all_acts p st bits))
