-- What outputs are told, and what they show of it.
use Rattle.std.specs.Prelude.{◌≡◌, ℕ, ◌<◌, List, [], ◌∷◌, map, length, slice_index_or, Option, Some, None, is_some, ⊤}
use Rattle.pdl_semantics.specs.Flat.{Pipe, is_delayed}
use Rattle.pdl_semantics.specs.Stages.{mem_at}
use Rattle.pdl_form.specs.Form.{Form}
use Rattle.pdl_net.specs.declared.Net.{Net}
use Rattle.pdl_net.specs.Circuit.{Circuit, Output}
use Rattle.pdl_net.specs.Signal.{Signal, no_signal}
use Rattle.pdl_net.specs.Meaning.{signal, IsThere}
use Rattle.pdl_lockapi.specs.declared.LockNets.{LockNets}
use Rattle.pdl_law_parts.specs.Walk.{is_locked, zero_bit}
use Rattle.pdl_law_parts.specs.Views.{View, Gates}
use Rattle.pdl_law_parts.specs.Ports.{Shown}
use Rattle.pdl_law_parts.specs.Compiled.{shown_in}
use Rattle.pdl_law_sides.specs.WholeNetlist.{Request, whole_shown}
use Rattle.pdl_pipe_locks.specs.Stepped.{commits_in}
use Rattle.pdl_pipe_beside.specs.declared.outside.RequestNets.{RequestNets}
use Rattle.pdl_pipe_ports.specs.declared.outputs.ShownNets.{ShownNets}
use Rattle.pdl_pipe_ports.specs.declared.outputs.OutNet.{OutNet}

-- ---- what is told

-- a stage's nets are there
abbrev pub AreThereStages : Circuit → List ShownNets → Type 0
AreThereStages c [] = ⊤
AreThereStages c (s ∷ ss) = IsThere c s.valid × IsThere c s.moves × AreThereStages c ss

-- the nets of what a memory commits are there
abbrev pub IsThereCommit : Circuit → Option LockNets → Type 0
IsThereCommit c None = ⊤
IsThereCommit c (Some n) = IsThere c n.commit × IsThere c n.addr × IsThere c n.value × IsThere c n.commit2 × IsThere c n.addr2 × IsThere c n.value2

-- the memories with a lock have such nets
pub record AreCommits (c : Circuit) (p : Pipe) (ns : List (Option LockNets)) : Type 0 where
  pub count : length ns ≡ length p.mems
  pub locked : (m : ℕ) → m < length p.mems → is_some (slice_index_or ns m None) ≡ is_locked p m
  pub there : (m : ℕ) → m < length p.mems → IsThereCommit c (slice_index_or ns m None)

-- the nets of what is asked of a memory are there
abbrev pub IsThereRequest : Circuit → Option RequestNets → Type 0
IsThereRequest c None = ⊤
IsThereRequest c (Some r) = IsThere c r.enable × IsThere c r.addr

-- the delayed memories have the nets of what is asked of them
pub record AreAsked (c : Circuit) (p : Pipe) (rs : List (Option RequestNets)) : Type 0 where
  pub count : length rs ≡ length p.mems
  pub delayed : (m : ℕ) → m < length p.mems → is_some (slice_index_or rs m None) ≡ is_delayed (mem_at p m).kind
  pub there : (m : ℕ) → m < length p.mems → IsThereRequest c (slice_index_or rs m None)

-- all nets that are told are there
pub record AreTold (c : Circuit) (p : Pipe) (ss : List ShownNets) (ns : List (Option LockNets)) (rs : List (Option RequestNets)) (removes : Net) : Type 0 where
  pub stages : AreThereStages c ss
  pub commits : AreCommits c p ns
  pub asks : AreAsked c p rs
  pub squash : IsThere c removes

-- ---- as the law of a netlist sees it

-- whether stage k holds a thread, by the nets that are told
abbrev pub valid_in : Circuit → List ShownNets → ℕ → Signal
valid_in c ss k = slice_index_or (map (λ (s : ShownNets). signal c s.valid) ss) k no_signal

-- whether the thread of stage k moves, by the nets that are told
abbrev pub moves_in : Circuit → List ShownNets → ℕ → Signal
moves_in c ss k = slice_index_or (map (λ (s : ShownNets). signal c s.moves) ss) k no_signal

-- what is asked of a memory; nothing of one that isn't delayed
abbrev pub ask_of : Circuit → Option RequestNets → Request
ask_of c None = record { enable = zero_bit; addr = zero_bit }
ask_of c (Some r) = record { enable = signal c r.enable; addr = signal c r.addr }

-- what is asked of memory m, by the nets that are told
abbrev pub asks_in : Circuit → List (Option RequestNets) → ℕ → Request
asks_in c rs m = ask_of c (slice_index_or rs m None)

-- these are the names of the memories
abbrev pub AreNames : List (List ℕ) → (ℕ → List ℕ) → Type 0
AreNames told name = (m : ℕ) → m < length told → name m ≡ slice_index_or told m []

-- the stages, the net of squashes and the memories' names are those of a netlist
pub record AreOf (c : Circuit) (ss : List ShownNets) (x : Net) (told : List (List ℕ)) (vs : ℕ → View) (gates : Gates)
    (goes : ℕ → Signal) (name : ℕ → List ℕ) : Type 0 where
  pub valid : (k : ℕ) → k < length ss → (vs k).valid ≡ valid_in c ss k
  pub moves : (k : ℕ) → k < length ss → goes k ≡ moves_in c ss k
  pub squash : gates.squash ≡ signal c x
  pub names : AreNames told name

-- ---- outputs

-- an output with its net as the netlist has it
abbrev pub output_of : OutNet → Output
output_of o = record { name = o.name; net = o.net }

-- the net of each of these outputs is there
abbrev pub OutsThere : Circuit → List OutNet → Type 0
OutsThere c [] = ⊤
OutsThere c (o ∷ os) = IsThere c o.net × OutsThere c os

-- what outputs show
abbrev pub shown_by : Circuit → List OutNet → List Shown
shown_by c os = map (shown_in c) (map output_of os)

-- outputs show what the law of a netlist asks, wherever these stages, this net of squashes, these commits and these requests are a netlist's
abbrev pub ShowAll : Circuit → Form → List ShownNets → Net → List (Option LockNets) → List (Option RequestNets) → List OutNet → Type 0
ShowAll c f ss x ns rs os =
    (vs : ℕ → View) (gates : Gates) (moves : ℕ → Signal) (names : ℕ → List ℕ) → AreOf c ss x f.names vs gates moves names
    → shown_by c os ≡ whole_shown f.pipe names (commits_in c ns) (asks_in c rs) vs gates moves
