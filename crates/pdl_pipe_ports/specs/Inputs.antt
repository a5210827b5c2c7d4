-- Inputs of a pipe's netlist: what comes from its delayed memories.
use Rattle.std.specs.Prelude.{◌≡◌, ℕ, ◌+◌, ◌*◌, ◌<◌, true, List, [], ◌∷◌, ◌++◌, length, Option, Some, None, is_some, if◌then◌else◌, codes}
use Rattle.pdl_semantics.specs.Flat.{Mem, Pipe, is_delayed}
use Rattle.pdl_syntax_tree.specs.View.{mem_kind_view}
use Rattle.pdl_semantics.specs.Stages.{mem_at, reply_place}
use Rattle.pdl_form.specs.Form.{Form}
use Rattle.pdl_form.specs.declared.form.FlatMem as r_mem
use Rattle.pdl_net.specs.declared.Port.{Port}
use Rattle.pdl_net.specs.Circuit.{Circuit}
use Rattle.pdl_net.specs.Signal.{input_signal}
use Rattle.pdl_net.specs.Meaning.{Means}
use Rattle.pdl_net.specs.Growth.{ExtendsPorts}
use Rattle.pdl_build.specs.Change.{input_port}
use Rattle.pdl_law_sides.specs.Readings.{Reading, reading}
use Rattle.pdl_law_sides.specs.WholeNetlist.{reply_ports}
use Rattle.pdl_pipe_walk.specs.Locked.{some_at}
use Rattle.pdl_pipe_beside.specs.declared.PortInput.{PortInput}
use Rattle.pdl_pipe_beside.specs.Beside.{Inputs}
use Rattle.pdl_pipe_ports.specs.ToldOutputs.{AreNames}

-- the two inputs of a delayed memory; another one has none
abbrev pub reply_pair : r_mem.FlatMem → List Port
reply_pair m = input_port (codes "p_" ++ m.name) 1 ∷ input_port (codes "pd_" ++ m.name) m.width ∷ []

-- the inputs of a memory: both of them where it is delayed, else none
abbrev pub mem_ports : r_mem.FlatMem → List Port
mem_ports m = if is_delayed (mem_kind_view m.kind) then reply_pair m else []

-- what comes from a memory where that is delayed; its reply has this number among the inputs, and its word the next one
pub record IsReplyOf (c : Circuit) (mem : Mem) (place : ℕ) (o : Option PortInput) : Type 0 where
  pub some : is_some o ≡ is_delayed mem.kind
  pub reply : (i : PortInput) → o ≡ Some i → Means c i.reply (input_signal 1 place)
  pub word : (i : PortInput) → o ≡ Some i → Means c i.word (input_signal mem.width (place + 1))

-- what comes from the first n memories, where they are delayed
pub record AreReplies (c : Circuit) (p : Pipe) (xs : List (Option PortInput)) (n : ℕ) : Type 0 where
  pub count : length xs ≡ n
  pub each : (m : ℕ) → m < n → IsReplyOf c (mem_at p m) (2 * reply_place p m) (some_at xs m)

-- the ports are the inputs of the delayed memories; and just these were added
abbrev pub HasReplies : Circuit → Form → Type 0
HasReplies c f = (names : ℕ → List ℕ) → AreNames f.names names → c.ports ≡ reply_ports names 0 f.pipe.mems

-- the ports that were added are just the inputs of the delayed memories
abbrev pub AddsReplies : Circuit → Circuit → Form → Type 0
AddsReplies old new f = (names : ℕ → List ℕ) → AreNames f.names names → ExtendsPorts old new (reply_ports names 0 f.pipe.mems)

-- what comes from each memory as the law of a netlist takes it
abbrev pub told_inputs : Pipe → ℕ → Inputs
told_inputs p m = record { reply = input_signal 1 (2 * reply_place p m); word = input_signal (mem_at p m).width (2 * reply_place p m + 1) }

-- ---- where memories are read

-- what comes from a memory that is read delayed
abbrev pub input_where : Option Reading → Option PortInput → Option PortInput
input_where None o = None
input_where (Some r) o = o

-- the first n memories have what comes from them where they are read delayed
pub record AreWhereRead (p : Pipe) (ins xs : List (Option PortInput)) (n : ℕ) : Type 0 where
  pub count : length xs ≡ n
  pub each : (m : ℕ) → m < n → some_at xs m ≡ input_where (reading p m) (some_at ins m)

-- only delayed memories of the pipe are read delayed
abbrev pub AreReadDelayed : Pipe → Type 0
AreReadDelayed p = (m : ℕ) (r : Reading) → reading p m ≡ Some r → (m < length p.mems) × (is_delayed (mem_at p m).kind ≡ true)
