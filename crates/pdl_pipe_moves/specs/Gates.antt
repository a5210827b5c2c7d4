-- What stands beside the stages and lets a thread move, by what it is.
use Rattle.std.specs.Prelude.{◌≡◌, ℕ, Bool, ◌<◌, List, [], ◌∷◌, length, Option, Some, None, if◌then◌else◌, nat_lt}
use Rattle.pdl_semantics.specs.Flat.{Branch, Pipe}
use Rattle.pdl_semantics.specs.Stages.{stage_at, sides_of}
use Rattle.pdl_form.specs.Sides.{first_of}
use Rattle.pdl_order.specs.declared.OrderRegs.{OrderRegs}
use Rattle.pdl_order.specs.Laws.{HasOrderNets}
use Rattle.pdl_pipe_beside.specs.Beside.{order_first, order_empty}
use Rattle.pdl_pipe_walk.specs.Locked.{some_at}
use Rattle.pdl_net.specs.Circuit.{Circuit}
use Rattle.pdl_net.specs.Signal.{Signal, mux_signal}
use Rattle.pdl_net.specs.declared.Net.{Net}
use Rattle.pdl_law_parts.specs.Walk.{Ask, one, zero_bit, both, if_on}
use Rattle.pdl_pipe_walk.specs.declared.nets.AskNet.{AskNet}
use Rattle.pdl_pipe_answers.specs.Ports.{IsBit}

-- before this stage only where it doesn't squash, else by the rest
abbrev pub kept_by : Option ℕ → ℕ → Signal → Signal → Signal
kept_by None k squash rest = rest
kept_by (Some z) k squash rest = if nat_lt k z then mux_signal squash zero_bit rest else rest

-- the port of each delayed read on its path is free, where the ports of the memories are free as this says
abbrev pub opens_by : (ℕ → Signal) → List Ask → Signal
opens_by free [] = one
opens_by free (q ∷ qs) = both (if_on q.on (free q.mem)) (opens_by free qs)

-- a request's condition is there, and whether its memory's port is free
pub record IsAsked (c : Circuit) (frees : List Net) (q : AskNet) : Type 0 where
  pub on : IsBit c q.on
  pub mem : q.mem < length frees

-- into a merge from the side of the fork that is the first of its list, and straight from the fork where that is empty
abbrev pub turn_by : Signal → Signal → Option Bool → Signal
turn_by first empty None = empty
turn_by first empty (Some b) = mux_signal empty zero_bit (if b then first else mux_signal first zero_bit one)

-- into stage q out of stage k, by the orders of the forks
abbrev pub merge_by : Circuit → List (Option OrderRegs) → Option ℕ → List Branch → Signal
merge_by c rs None from = one
merge_by c rs (Some f) from = turn_by (order_first c (some_at rs f)) (order_empty c (some_at rs f)) (first_of (sides_of f from))

-- whether it is the turn of the thread of stage k to go into stage q
abbrev pub turn_in : Circuit → Pipe → List (Option OrderRegs) → ℕ → ℕ → Signal
turn_in c p rs k q = merge_by c rs (stage_at p q).merges (stage_at p k).branches

-- a fork whose branches meet has its order
abbrev pub IsOrderThere : Circuit → Option OrderRegs → Type 0
IsOrderThere c None = ⊥
IsOrderThere c (Some r) = HasOrderNets c r

-- each fork that a stage of the pipe merges has its order
abbrev pub HasTurns : Circuit → Pipe → List (Option OrderRegs) → Type 0
HasTurns c p rs = (q f : ℕ) → q < length p.stages → (stage_at p q).merges ≡ Some f → (f < length rs) × IsOrderThere c (some_at rs f)
