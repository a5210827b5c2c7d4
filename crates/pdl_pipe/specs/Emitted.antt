-- The parts of a netlist of a pipe, from its inputs to its outputs.
use Rattle.std.specs.Prelude.{◌≡◌, ℕ, ◌<◌, ◌≤◌, List, length, map, Option, Some, slice_index_or}
use Rattle.pdl_semantics.specs.Stages.{verify_stage}
use Rattle.pdl_form.specs.Form.{Form}
use Rattle.pdl_net.specs.declared.Net.{Net}
use Rattle.pdl_net.specs.declared.Net.TheVariants.{Reg as RegNet}
use Rattle.pdl_net.specs.Circuit.{Circuit, shapes_of}
use Rattle.pdl_net.specs.Growth.{Extends, ExtendsBut, ExtendsPorts, Keeps}
use Rattle.pdl_lockapi.specs.declared.LockNets.{LockNets}
use Rattle.pdl_port.specs.declared.PortRegs.{PortRegs}
use Rattle.pdl_port.specs.Laws as port_laws
use Rattle.pdl_order.specs.declared.OrderRegs.{OrderRegs}
use Rattle.pdl_order.specs.Laws as order_laws
use Rattle.pdl_pipe_exprs.specs.declared.bits.Bits.{Bits}
use Rattle.pdl_pipe_exprs.specs.Conditions.{AreBits}
use Rattle.pdl_law_parts.specs.Compiled.{port_in}
use Rattle.pdl_law_sides.specs.WholeNetlist.{reply_ports}
use Rattle.pdl_pipe_walk.specs.declared.locks.MemLock.{MemLock}
use Rattle.pdl_pipe_walk.specs.Locked.{Members, some_at, AreLocked}
use Rattle.pdl_pipe_answers.specs.Ports.{HasAnswers}
use Rattle.pdl_pipe_beside.specs.declared.ends.StageEnd.{StageEnd}
use Rattle.pdl_pipe_beside.specs.declared.ends.Squashes.{Squashes}
use Rattle.pdl_pipe_beside.specs.Ports.{StandPorts}
use Rattle.pdl_pipe_beside.specs.Parts.{own_at, ExtendsParts}
use Rattle.pdl_pipe_beside.specs.Beside.{AreTaken}
use Rattle.pdl_pipe_beside.specs.Steps.{IsPortStepped, IsOrderStepped}
use Rattle.pdl_pipe_registers.specs.declared.nets.StageNets.{StageNets}
use Rattle.pdl_pipe_registers.specs.Stages.{IsAt}
use Rattle.pdl_pipe_registers.specs.Staged.{AreApart}
use Rattle.pdl_pipe_nexts.specs.declared.line.StageLine.{StageLine}
use Rattle.pdl_pipe_nexts.specs.Lines.{line_form, line_pipe}
use Rattle.pdl_pipe_nexts.specs.Nexts.{regs_of, TakesNext}
use Rattle.pdl_pipe_emitted.specs.pipe_moves.declared.whole.MoveNets.{MoveNets}
use Rattle.pdl_pipe_emitted.specs.pipe_moves.Passed.{AreMoved}
use Rattle.pdl_pipe_emitted.specs.pipe_tails.declared.whole.TailNets.{TailNets}
use Rattle.pdl_pipe_emitted.specs.pipe_tails.Tails.{HasCut, IsRow}
use Rattle.pdl_pipe_locks.specs.declared.deeds.StageDeeds.{StageDeeds}
use Rattle.pdl_pipe_locks.specs.Deeds.{steps_in}
use Rattle.pdl_pipe_locks.specs.Advised.{advises_in, ExtendsAdvice}
use Rattle.pdl_pipe_locks.specs.Lawful.{AreLawful, AreUnwritten}
use Rattle.pdl_pipe_locks.specs.Stepped.{own_of, AreStepped, ExtendsLocks}
use Rattle.pdl_pipe_locks.specs.Suited.{shapes_in}
use Rattle.pdl_pipe_ports.specs.declared.outputs.OutNet.{OutNet}
use Rattle.pdl_pipe_ports.specs.declared.outputs.ShownNets.{ShownNets}
use Rattle.pdl_pipe_ports.specs.ToldOutputs.{OutsThere, ShowAll, output_of}
use Rattle.pdl_pipe_emitted.specs.Emitted.{AreDeedsOf, Emission, IsLayout, Nets, inputs_of, name_in}

-- of each stage whether it holds a thread, and whether that moves
pub record AreShownOf (x : StageLine) (ss : List ShownNets) : Type 0 where
  pub count : length ss ≡ length x.stages.now
  pub valid : (k : ℕ) (s : StageNets) (y : ShownNets) → k < length ss → IsAt x.stages.now k s → slice_index_or ss k y ≡ y → y.valid ≡ RegNet s.regs.valid
  pub moves : (k : ℕ) (z : Net) (y : ShownNets) → k < length ss → slice_index_or x.moves.now k z ≡ z → slice_index_or ss k y ≡ y → y.moves ≡ z

-- ---- in order

-- inputs, memories with their locks, and ports stand in a circuit; the registers of the locks are below `low`, and those of the ports from there up to `mid`
pub record HasMemories {T : Type 0} (l : Members T) (c : Circuit) (f : Form) (bits : Bits)
    (locks : List (Option (MemLock T))) (ports : List (Option PortRegs)) (low mid : ℕ) : Type 0 where
  pub are_bits : AreBits c bits
  pub locked : AreLocked l c f.pipe locks
  pub lawful : AreLawful l c f.pipe locks
  pub unwritten : AreUnwritten c f.pipe
  pub locks_to : (m : ℕ) → m < length f.pipe.mems → (own_of (some_at locks m)).to ≤ low
  pub stand_ports : StandPorts c f.pipe ports
  pub answers : HasAnswers c f.pipe ports
  pub ports_from : (m : ℕ) (q : PortRegs) → m < length f.pipe.mems → some_at ports m ≡ Some q → low ≤ (port_laws.own q).from
  pub ports_to : (m : ℕ) (q : PortRegs) → m < length f.pipe.mems → some_at ports m ≡ Some q → (port_laws.own q).to ≤ mid
  pub order : (low ≤ mid) × (mid ≤ length c.regs)
  -- and in each later circuit ports take what comes from outside
  pub taken : (d : Circuit) → Keeps c d → AreTaken d ports (inputs_of f.pipe)
  pub inputs : c.ports ≡ reply_ports (name_in f) 0 f.pipe.mems
  pub shapes : shapes_of c ≡ shapes_in f.names f.pipe.mems

-- inputs, memories with their locks, and ports stand in a circuit, with some bounds between their registers
abbrev pub HasMemoriesIn : {T : Type 0} → Members T → Circuit → Form → Bits → List (Option (MemLock T)) → List (Option PortRegs) → Type 0
HasMemoriesIn l c f bits locks ports = (low : ℕ) × (mid : ℕ) × HasMemories l c f bits locks ports low mid

-- all that stands in a circuit before the moves are known, with some bounds between its registers
abbrev pub IsLaidOut : {T : Type 0} → Members T → Circuit → StageLine → List (Option (MemLock T)) → List (Option OrderRegs) → Type 0
IsLaidOut l c x locks orders = (low : ℕ) × (mid : ℕ) × (high : ℕ) × IsLayout l c x locks orders low mid high

-- it is known who moves
pub record HasMoves {T : Type 0} (l : Members T) (b : Circuit) (x : StageLine) (locks : List (Option (MemLock T)))
    (forks : List (Option OrderRegs)) (y : MoveNets) : Type 0 where
  pub a : Circuit
  pub layout : IsLaidOut l a x locks forks
  pub to_moves : Extends a b
  pub moved : AreMoved b x forks y
  pub line_moves_are : x.moves.now ≡ y.moves.items
  pub line_kills_are : x.kills.now ≡ y.kills.items

-- the arrays of advisory memories take what they should next, from circuit j to circuit h, and the locks, from there to circuit i
pub record HasLockSteps {T : Type 0} (l : Members T) (j i : Circuit) (x : StageLine) (locks : List (Option (MemLock T)))
    (squash : Net) (cut : List Net) (commits : List (Option LockNets)) : Type 0 where
  pub h : Circuit
  pub deeds : List StageDeeds
  pub are_deeds : AreDeedsOf x deeds
  pub to_advice : ExtendsAdvice (line_pipe x) j h (advises_in j deeds)
  pub stepped : AreStepped l i (line_pipe x) (steps_in h (line_pipe x) deeds squash cut) locks commits (length (line_pipe x).mems)
  pub to_locks : ExtendsLocks locks (length (line_pipe x).mems) h i

-- all registers do, from circuit c to circuit i; those of the stages are from `high` on
pub record HasSteps {T : Type 0} (l : Members T) (c i : Circuit) (x : StageLine) (locks : List (Option (MemLock T)))
    (forks : List (Option OrderRegs)) (es : List StageEnd) (squash : Net) (squashes : Squashes) (tails : TailNets)
    (commits : List (Option LockNets)) : Type 0 where
  pub e : Circuit
  pub f : Circuit
  pub g : Circuit
  pub j : Circuit
  pub takes : (k : ℕ) (s : StageNets) → k < length x.stages.now → IsAt x.stages.now k s → TakesNext c e x k s
  pub to_nexts : (high : ℕ) → AreApart high (length c.regs) x.stages.now → ExtendsBut (regs_of high (length c.regs)) c e
  pub cut : HasCut e f x squashes.verify tails (verify_stage (line_pipe x).stmts)
  pub row : IsRow e f x tails.cut
  pub to_tails : Extends e f
  pub ports_stepped : (m : ℕ) → IsPortStepped f g (line_pipe x) es x.shared.now.ports.now m
  pub to_ports : ExtendsParts (own_at port_laws.own x.shared.now.ports.now) (length (line_pipe x).mems) f g
  pub orders_stepped : (k : ℕ) → k < length (line_pipe x).stages → IsOrderStepped g j (line_pipe x) es squashes forks k
  pub to_orders : ExtendsParts (own_at order_laws.own forks) (length (line_pipe x).stages) g j
  pub last : HasLockSteps l j i x locks squash tails.cut commits

-- ---- the whole

-- all nets of a form, with its outputs
pub record IsEmitted {T : Type 0} (l : Members T) (c : Circuit) (f : Form) : Type 0 where
  pub nets : Nets T
  pub emission : Emission l nets
  pub form_is : line_form nets.line ≡ f
  pub whole : emission.d ≡ c
  pub stages : List ShownNets
  pub are_shown : AreShownOf nets.line stages
  pub outs : List OutNet
  pub there : OutsThere emission.i outs
  pub ports : ExtendsPorts emission.i c (map (port_in emission.i) (map output_of outs))
  pub shown : ShowAll emission.i f stages nets.moves.squash nets.commits nets.requests outs
