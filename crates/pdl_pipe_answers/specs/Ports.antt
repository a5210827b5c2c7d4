-- The ports of the delayed memories of a pipe in a circuit, by the numbers of the memories.
use Rattle.std.specs.Prelude.{◌≡◌, ℕ, Bool, List, length, slice_index_or, Option, Some, None, if◌then◌else◌}
use Rattle.pdl_semantics.specs.Flat.{Pipe}
use Rattle.pdl_semantics.specs.Stages.{mem_at}
use Rattle.pdl_net.specs.declared.Net.{Net}
use Rattle.pdl_net.specs.Circuit.{Circuit, State}
use Rattle.pdl_net.specs.Meaning.{signal}
use Rattle.pdl_net.specs.Signal.{Signal, no_signal, mux_signal}
use Rattle.pdl_net.specs.HasWidth.{HasWidth}
use Rattle.pdl_port.specs.declared.PortRegs.{PortRegs}
use Rattle.pdl_port.specs.Laws.{AnswerSignals, HasAnswerNets, answer_signals, places as port_places}
use Rattle.pdl_law_sides.specs.Walk.{both, is_on}
use Rattle.pdl_law_sides.specs.Readings.{Reading, reading, places}

-- two signals are 1 in the same states
abbrev pub IsOnAs : Signal → Signal → Type 0
IsOnAs f g = (s : State) → is_on f s ≡ is_on g s

-- the port of memory m, where it has one
abbrev pub port_at : List (Option PortRegs) → ℕ → Option PortRegs
port_at ports m = slice_index_or ports m None

-- what the port of a memory answers; of a memory without port nothing is asked
abbrev pub port_answers : Circuit → Option PortRegs → ℕ → AnswerSignals
port_answers c None i = record { answered = no_signal; given = no_signal; value = no_signal }
port_answers c (Some r) i = answer_signals c r i

-- what the port of memory m answers at each place
abbrev pub answers_in : Circuit → List (Option PortRegs) → ℕ → ℕ → AnswerSignals
answers_in c ports m = port_answers c (port_at ports m)

-- a port that has an answer for each place of a delayed read, as wide as the memory's words
abbrev pub IsPortFor : Circuit → Pipe → ℕ → Reading → Option PortRegs → Type 0
IsPortFor c p m r None = ⊥
IsPortFor c p m r (Some q) = (port_places q ≡ length (places p r)) × HasAnswerNets c (mem_at p m).width q

-- each memory that is read delayed has a port for its read
pub record HasAnswers (c : Circuit) (p : Pipe) (ports : List (Option PortRegs)) : Type 0 where
  pub count : length ports ≡ length p.mems
  pub each : (m : ℕ) (r : Reading) → reading p m ≡ Some r → IsPortFor c p m r (port_at ports m)

-- where this is true the answer of a place that has one, else the rest
abbrev pub answer_where : Bool → AnswerSignals → Signal → Signal
answer_where here a rest = if here then mux_signal a.given a.value rest else rest

-- where the delayed read of memory m binds x, the memory's words have this width
abbrev pub BindsWide : Pipe → ℕ → ℕ → ℕ → Type 0
BindsWide p x w m = (r : Reading) → reading p m ≡ Some r → r.var ≡ x → (mem_at p m).width ≡ w

-- a net that is there with 1 bit
abbrev pub IsBit : Circuit → Net → Type 0
IsBit c x = HasWidth c x 1

-- a net that is there with 1 bit, and is 1 just where this signal is
pub record IsBitFor (c : Circuit) (x : Net) (f : Signal) : Type 0 where
  pub bit : HasWidth c x 1
  pub on : IsOnAs (signal c x) f

-- where this is true both are 1, else the rest
abbrev pub answered_where : Bool → AnswerSignals → Signal → Signal
answered_where here a rest = if here then both a.answered rest else rest
