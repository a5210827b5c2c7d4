-- The ports of delayed memories, with their inputs.
use Rattle.std.specs.Prelude.{◌≡◌, ℕ, ◌<◌, ◌≤◌, List, length, Option, Some, true, is_some}
use Rattle.pdl_semantics.specs.Flat.{Pipe}
use Rattle.pdl_semantics.specs.Stages.{mem_at}
use Rattle.pdl_net.specs.Circuit.{Circuit}
use Rattle.pdl_net.specs.Meaning.{IsThere, signal}
use Rattle.pdl_net.specs.HasWidth.{HasWidth}
use Rattle.pdl_port.specs.declared.PortRegs.{PortRegs}
use Rattle.pdl_port.specs.Laws.{HasAnswerNets, StartLaw, AnswerLaw, own, answer_signals, places as port_places}
use Rattle.pdl_port.specs.Places.{ArePlaced, stands}
use Rattle.pdl_machine_inflight.specs.Readings.{Reading, reading, places, place_at}
use Rattle.pdl_law_sides.specs.HasSides.{HasOwn}
use Rattle.pdl_pipe_walk.specs.Locked.{some_at}
use Rattle.pdl_pipe_beside.specs.declared.PortInput.{PortInput}

-- delayed reads are of memories of the pipe, and a stage that reads leads on to stages of the pipe
pub record ReadsLeadOn (p : Pipe) : Type 0 where
  pub known : (m : ℕ) (r : Reading) → reading p m ≡ Some r → m < length p.mems
  pub stage : (m : ℕ) (r : Reading) → reading p m ≡ Some r → r.stage < length p.stages
  pub to : (m : ℕ) (r : Reading) → reading p m ≡ Some r → (i : ℕ) → i < length (places p r) → place_at p r i < length p.stages
  pub onward : (m : ℕ) (r : Reading) → reading p m ≡ Some r → 1 ≤ length (places p r)

-- ---- inputs

-- a reply of 1 bit, and a word as wide as the memory's
pub record IsInput (c : Circuit) (width : ℕ) (i : PortInput) : Type 0 where
  pub reply : HasWidth c i.reply 1
  pub word : HasWidth c i.word width

-- the inputs of memory m, where it has some
abbrev pub input_at : List (Option PortInput) → ℕ → Option PortInput
input_at xs m = some_at xs m

-- each memory that is read delayed has its inputs, and no other
pub record AreInputs (c : Circuit) (p : Pipe) (xs : List (Option PortInput)) : Type 0 where
  pub count : length xs ≡ length p.mems
  pub some : (m : ℕ) → m < length p.mems → is_some (reading p m) ≡ is_some (input_at xs m)
  pub each : (m : ℕ) (i : PortInput) → input_at xs m ≡ Some i → IsInput c (mem_at p m).width i

-- ---- ports

-- the port of a delayed read: its registers are there, and the laws of its start and of its answers hold
pub record IsPort (c : Circuit) (p : Pipe) (m : ℕ) (r : Reading) (q : PortRegs) : Type 0 where
  pub count : port_places q ≡ length (places p r)
  pub nets : HasAnswerNets c (mem_at p m).width q
  pub placed : ArePlaced c q
  pub word_there : IsThere c q.word
  pub owned : HasOwn c (own q)
  pub starts : StartLaw (stands q) c (own q)
  pub answers : AnswerLaw (stands q) (length (places p r)) (signal c q.reply) (signal c q.word) (answer_signals c q)

-- a memory has a port where it is read delayed, of its inputs
pub record HasPortOf (c : Circuit) (p : Pipe) (m : ℕ) (input : Option PortInput) (o : Option PortRegs) : Type 0 where
  pub some : is_some o ≡ is_some (reading p m)
  pub port : (r : Reading) (q : PortRegs) → reading p m ≡ Some r → o ≡ Some q → IsPort c p m r q
  pub reply : (i : PortInput) (q : PortRegs) → input ≡ Some i → o ≡ Some q → q.reply ≡ i.reply
  pub word : (i : PortInput) (q : PortRegs) → input ≡ Some i → o ≡ Some q → q.word ≡ i.word

-- memory m has a port where it is read delayed, of its inputs among these
abbrev pub has_port : Circuit → Pipe → List (Option PortInput) → ℕ → Option PortRegs → Type 0
has_port c p inputs m o = HasPortOf c p m (input_at inputs m) o

-- each memory that is read delayed has a port, with registers of its own
pub record StandPorts (c : Circuit) (p : Pipe) (qs : List (Option PortRegs)) : Type 0 where
  pub count : length qs ≡ length p.mems
  pub some : (m : ℕ) (r : Reading) → reading p m ≡ Some r → is_some (some_at qs m) ≡ true
  pub each : (m : ℕ) (r : Reading) (q : PortRegs) → reading p m ≡ Some r → some_at qs m ≡ Some q → IsPort c p m r q
  pub apart : (i j : ℕ) (x y : PortRegs) → i < j → j < length p.mems → some_at qs i ≡ Some x → some_at qs j ≡ Some y → (own x).to ≤ (own y).from
