-- Ports and orders as the law of a netlist takes them.
use Rattle.std.specs.Prelude.{◌≡◌, ℕ, ◌<◌, Bool, List, length, Option, Some, None}
use Rattle.pdl_semantics.specs.Flat.{Pipe}
use Rattle.pdl_net.specs.declared.Net.{Net}
use Rattle.pdl_net.specs.Circuit.{Circuit, State}
use Rattle.pdl_net.specs.Signal.{Signal, no_signal}
use Rattle.pdl_net.specs.Meaning.{signal}
use Rattle.pdl_port.specs.declared.PortRegs.{PortRegs}
use Rattle.pdl_port.specs.Port.{PortState}
use Rattle.pdl_port.specs.Laws.{FreeLaw}
use Rattle.pdl_port.specs.Places as port_places
use Rattle.pdl_order.specs.declared.OrderRegs.{OrderRegs}
use Rattle.pdl_order.specs.Words as order_words
use Rattle.pdl_machine_inflight.specs.Readings.{Reading, reading, places, place_at}
use Rattle.pdl_law_parts.specs.Views.{View, Gates}
use Rattle.pdl_law_sides.specs.Sides.{Sides}
use Rattle.pdl_pipe_answers.specs.Ports.{port_answers}
use Rattle.pdl_pipe_walk.specs.Locked.{some_at}
use Rattle.pdl_pipe_beside.specs.declared.ends.StageEnd.{StageEnd}
use Rattle.pdl_pipe_beside.specs.declared.ends.Squashes.{Squashes}
use Rattle.pdl_pipe_beside.specs.Squashed.{squashes_in}
use Rattle.pdl_pipe_beside.specs.Ends.{ends_in, moves_in, kills_in}

-- what comes from a delayed memory
pub record Inputs : Type 0 where
  pub reply : Signal
  pub word : Signal

-- each port takes what comes from its memory
pub record AreTaken (c : Circuit) (qs : List (Option PortRegs)) (ins : ℕ → Inputs) : Type 0 where
  pub reply : (m : ℕ) (q : PortRegs) → some_at qs m ≡ Some q → signal c q.reply ≡ (ins m).reply
  pub word : (m : ℕ) (q : PortRegs) → some_at qs m ≡ Some q → signal c q.word ≡ (ins m).word

-- what the registers of a memory's port stand for; of a memory without port nothing is known
abbrev pub port_stands : Option PortRegs → State → PortState → Type 0
port_stands None s x = Unit {0}
port_stands (Some q) s x = port_places.stands q s x

-- what the registers of a fork's order stand for; of a fork without order nothing is known
abbrev pub order_stands : Option OrderRegs → State → List Bool → Type 0
order_stands None s xs = Unit {0}
order_stands (Some r) s xs = order_words.stands r s xs

-- whether the oldest thread inside took the first branch, by the order of a fork that has one
abbrev pub order_first : Circuit → Option OrderRegs → Signal
order_first c None = no_signal
order_first c (Some r) = signal c r.first

-- whether no thread is inside, by the order of a fork that has one
abbrev pub order_empty : Circuit → Option OrderRegs → Signal
order_empty c None = no_signal
order_empty c (Some r) = signal c r.empty

-- of each stage that squashes whether it does, whom it removes, and which stages are clear up to it, and of each stage and memory where the thread's squash would cut the lock
pub record SquashSides : Type 0 where
  pub squash : ℕ → Signal
  pub removed : ℕ → ℕ → Signal
  pub clear : ℕ → ℕ → Signal
  pub tails : ℕ → ℕ → Signal

-- what stands beside the stages, where this comes from the delayed memories, these ports are free as this says, and squashes go by the rest
abbrev pub sides_in : Circuit → List (Option PortRegs) → (ℕ → Inputs) → (ℕ → Signal) → List (Option OrderRegs) → SquashSides → Sides
sides_in c qs ins frees rs sq = record {
  port =
      λ m. record { stands = port_stands (some_at qs m); reply = (ins m).reply; word = (ins m).word; answers = port_answers c (some_at qs m); free = frees m };
  order = λ f. record { stands = order_stands (some_at rs f); first = order_first c (some_at rs f); empty = order_empty c (some_at rs f) };
  squash = sq.squash;
  removed = sq.removed;
  clear = sq.clear;
  tails = sq.tails;
}

-- each port is free as this says
abbrev pub AreFree : Circuit → Pipe → (ℕ → Signal) → List (Option PortRegs) → (ℕ → Signal) → Type 0
AreFree c p moves qs frees =
    (m : ℕ) (r : Reading) (q : PortRegs) → reading p m ≡ Some r → some_at qs m ≡ Some q
    → FreeLaw (port_places.stands q) (length (places p r)) (signal c q.reply) (λ i. moves (place_at p r i)) (frees m)

-- the stages of a law are these, and squash so
pub record AreStagesOf (c : Circuit) (p : Pipe) (es : List StageEnd) (y : Squashes) (vs : ℕ → View) (gates : Gates)
    (moves squash : ℕ → Signal) : Type 0 where
  pub ends : (k : ℕ) → k < length p.stages → (vs k).ended ≡ (ends_in c es k).ended
  pub move : (k : ℕ) → k < length p.stages → moves k ≡ moves_in c es k
  pub kills : (k : ℕ) → k < length p.stages → gates.kill k ≡ kills_in c es k
  pub squashes : squash ≡ squashes_in c p y
