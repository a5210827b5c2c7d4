-- What the stages do to ports and orders.
use Rattle.std.specs.Prelude.{◌≡◌, ℕ, ◌<◌, ◌==◌, List, length, Some, if◌then◌else◌, Option}
use Rattle.pdl_semantics.specs.Flat.{Pipe}
use Rattle.pdl_semantics.specs.Stages.{stage_at, is_inside}
use Rattle.pdl_net.specs.declared.Net.{Net}
use Rattle.pdl_net.specs.Circuit.{Circuit}
use Rattle.pdl_net.specs.Signal.{Signal, mux_signal}
use Rattle.pdl_net.specs.Meaning.{signal}
use Rattle.pdl_net.specs.HasWidth.{HasWidth}
use Rattle.pdl_port.specs.declared.PortRegs.{PortRegs}
use Rattle.pdl_port.specs.Laws.{HasBits, StepLaw, StepSignals, own, signal_at}
use Rattle.pdl_port.specs.Places.{stands}
use Rattle.pdl_machine_inflight.specs.Readings.{Reading, reading, places, place_at, branch_stages}
use Rattle.pdl_law_parts.specs.Walk.{Ask, one, both}
use Rattle.pdl_order.specs.declared.OrderRegs.{OrderRegs}
use Rattle.pdl_order.specs.Laws as order_laws
use Rattle.pdl_order.specs.Words as order_words
use Rattle.pdl_law_parts.specs.Views.{View}
use Rattle.pdl_law_sides.specs.Sides.{asked_into, into_merge, order_step}
use Rattle.pdl_pipe_walk.specs.declared.nets.AskNet.{AskNet}
use Rattle.pdl_pipe_walk.specs.Locked.{some_at}
use Rattle.pdl_pipe_beside.specs.declared.ends.StageEnd.{StageEnd}
use Rattle.pdl_pipe_beside.specs.declared.ends.Squashes.{Squashes}
use Rattle.pdl_pipe_beside.specs.Squashed.{squashes_in}
use Rattle.pdl_pipe_beside.specs.Ends.{ends_in, moves_in, kills_in}

-- whether a thread that moves makes this request of a memory, or else one of the rest
abbrev pub ask_or : ℕ → Signal → Ask → Signal → Signal
ask_or m moves q rest = if q.mem == m then mux_signal (both moves q.on) one rest else rest

-- a request's condition is there, with 1 bit
abbrev pub IsAskNet : Circuit → AskNet → Type 0
IsAskNet c q = HasWidth c q.on 1

-- these are the nets of n bits
pub record AreNetsOf (c : Circuit) (nets : List Net) (n : ℕ) (f : ℕ → Signal) : Type 0 where
  pub bits : HasBits c nets n
  pub same : (k : ℕ) → k < n → signal_at c nets k ≡ f k

-- what the stages do to the port of a delayed read
abbrev pub port_signals : Circuit → Pipe → List StageEnd → ℕ → Reading → PortRegs → StepSignals
port_signals c p es m r q = record {
  reply = signal c q.reply;
  moves = λ i. moves_in c es (place_at p r i);
  removed = λ i. kills_in c es (place_at p r i);
  asked = asked_into p (ends_in c es) (moves_in c es) m r;
}

-- the port of a memory, where it has one, keeps its law in a later circuit
abbrev pub IsPortStepped : Circuit → Circuit → Pipe → List StageEnd → List (Option PortRegs) → ℕ → Type 0
IsPortStepped a c p es qs m =
    (r : Reading) (q : PortRegs) → reading p m ≡ Some r → some_at qs m ≡ Some q → StepLaw (stands q) (length (places p r)) (own q) c (port_signals a p es m r q)

-- ---- orders

-- whether the thread of this stage in a branch of a fork goes into the merge, or else one of the rest
abbrev pub leave_or : Pipe → (ℕ → View) → (ℕ → Signal) → ℕ → ℕ → Signal → Signal
leave_or p vs moves f k rest = if is_inside p f k then mux_signal (both (moves k) (into_merge p f (stage_at p k).next (vs k).ended)) one rest else rest

-- what the stages do to the order of a fork
abbrev pub order_signals : Circuit → Pipe → List StageEnd → Squashes → ℕ → order_laws.StepSignals
order_signals c p es squashes f = order_step p (ends_in c es) (squashes_in c p squashes) (moves_in c es) f

-- the order of a fork, where it has one, keeps its law in a later circuit
abbrev pub IsOrderStepped : Circuit → Circuit → Pipe → List StageEnd → Squashes → List (Option OrderRegs) → ℕ → Type 0
IsOrderStepped a c p es squashes rs f =
    (r : OrderRegs) → some_at rs f ≡ Some r
    → order_laws.StepLaw (order_words.stands r) (branch_stages p f) (order_laws.own r) c (order_signals a p es squashes f)
