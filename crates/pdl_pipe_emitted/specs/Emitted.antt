-- All nets of a pipe in one circuit, emitted one after the other.
use Rattle.std.specs.Prelude.{◌≡◌, ℕ, ◌+◌, ◌*◌, ◌<◌, ◌≤◌, List, [], length, Option, Some, None, slice_index_or}
use Rattle.pdl_semantics.specs.Flat.{Pipe}
use Rattle.pdl_semantics.specs.Stages.{stage_at, mem_at, verify_stage, reply_place}
use Rattle.pdl_machine_facts.specs.Slots.{LeadsOn}
use Rattle.pdl_form.specs.Form.{Form}
use Rattle.pdl_form_types.specs.Stmts.{IsTypedForm}
use Rattle.pdl_net.specs.declared.Net.{Net}
use Rattle.pdl_net.specs.Circuit.{Circuit, HasReg, HasArray, shapes_of}
use Rattle.pdl_net.specs.Signal.{Signal, input_signal}
use Rattle.pdl_net.specs.Meaning.{signal, next_signal, write_signals}
use Rattle.pdl_net.specs.Growth.{Extends, ExtendsBut, Keeps}
use Rattle.pdl_pipe_exprs.specs.Nets.{signals_in, signal_at}
use Rattle.pdl_lockapi.specs.declared.LockNets.{LockNets}
use Rattle.pdl_port.specs.declared.PortRegs.{PortRegs}
use Rattle.pdl_port.specs.Laws as port_laws
use Rattle.pdl_order.specs.declared.OrderRegs.{OrderRegs}
use Rattle.pdl_order.specs.Laws as order_laws
use Rattle.pdl_machine_inflight.specs.Readings.{Reading, Reads, reading}
use Rattle.pdl_law_parts.specs.Walk.{Locks, one, zero_bit}
use Rattle.pdl_law_parts.specs.Views.{View, Gates}
use Rattle.pdl_law_sides.specs.Sides.{Sides, gate_where}
use Rattle.pdl_law_sides.specs.WholeNetlist.{reply_ports}
use Rattle.pdl_pipe_walk.specs.declared.locks.MemLock.{MemLock}
use Rattle.pdl_pipe_walk.specs.Locked.{Members, some_at, locks_in, AreLocked}
use Rattle.pdl_pipe_walk.specs.Sized.{AreWalked}
use Rattle.pdl_pipe_answers.specs.Ports.{answers_in}
use Rattle.pdl_pipe_beside.specs.declared.ends.StageEnd.{StageEnd}
use Rattle.pdl_pipe_beside.specs.declared.outside.RequestNets.{RequestNets}
use Rattle.pdl_pipe_beside.specs.Ports.{ReadsLeadOn, StandPorts}
use Rattle.pdl_pipe_beside.specs.Orders.{ForksFit, StandOrders}
use Rattle.pdl_pipe_beside.specs.Parts.{own_at, ExtendsParts}
use Rattle.pdl_pipe_beside.specs.Steps.{IsPortStepped, IsOrderStepped}
use Rattle.pdl_pipe_beside.specs.Requests.{AreRequests}
use Rattle.pdl_pipe_beside.specs.Squashed.{squashes_in}
use Rattle.pdl_pipe_beside.specs.Beside.{Inputs, SquashSides, sides_in}
use Rattle.pdl_pipe_registers.specs.declared.nets.StageNets.{StageNets}
use Rattle.pdl_pipe_registers.specs.Begun.{IsShared}
use Rattle.pdl_pipe_registers.specs.Stages.{IsAt}
use Rattle.pdl_pipe_registers.specs.Staged.{AreStaged, AreApart, next_signals}
use Rattle.pdl_pipe_nexts.specs.declared.line.StageLine.{StageLine}
use Rattle.pdl_pipe_nexts.specs.Lines.{line_form, line_pipe, line_views, line_moves, line_kills, IsLineIn}
use Rattle.pdl_pipe_nexts.specs.Nexts.{regs_of, TakesNext}
use Rattle.pdl_pipe_moves.specs.declared.whole.MoveNets.{MoveNets}
use Rattle.pdl_pipe_moves.specs.Inside.{LeadsInside}
use Rattle.pdl_pipe_moves.specs.Passed.{AreMoved, frees_at}
use Rattle.pdl_pipe_tails.specs.declared.whole.TailNets.{TailNets}
use Rattle.pdl_pipe_tails.specs.Tails.{HasCut, IsRow, tails_in}
use Rattle.pdl_pipe_locks.specs.declared.deeds.StageDeeds.{StageDeeds}
use Rattle.pdl_pipe_locks.specs.Deeds.{steps_in}
use Rattle.pdl_pipe_locks.specs.Advised.{advises_in, ExtendsAdvice}
use Rattle.pdl_pipe_locks.specs.Lawful.{AreLawful, AreUnwritten}
use Rattle.pdl_pipe_locks.specs.Stepped.{own_of, AreStepped, ExtendsLocks}
use Rattle.pdl_pipe_locks.specs.Suited.{shapes_in}
use Rattle.pdl_pipe_emitted.specs.MadeLine.{BeginsFirst}

-- ---- what is asked of a form

-- a form of which all nets can be made: typed statements, stages that lead on and inside the pipe, and forks that fit their orders
pub record CanEmit (f : Form) : Type 0 where
  pub typed : IsTypedForm f
  pub walked : AreWalked f f.pipe.stmts
  pub reserves : length f.pipe.reserves_at ≡ length f.pipe.mems
  pub releases : length f.pipe.releases_at ≡ length f.pipe.mems
  pub leads : LeadsOn f.pipe
  pub inside : LeadsInside f.pipe
  pub reads : Reads f.pipe
  pub onward : ReadsLeadOn f.pipe
  pub fit : ForksFit f.pipe
  pub begins : BeginsFirst f.pipe
  pub wide : length f.pipe.start ≤ length f.widths
  pub verify : (v : ℕ) → verify_stage f.pipe.stmts ≡ Some v → v < length f.pipe.stages
  pub forks : (q i : ℕ) → q < length f.pipe.stages → (stage_at f.pipe q).merges ≡ Some i → i < length f.pipe.stages

-- ---- before the stages move

-- the name of a memory of a form
abbrev pub name_in : Form → ℕ → List ℕ
name_in f m = slice_index_or f.names m []

-- what comes from a delayed memory: its two inputs
abbrev pub inputs_of : Pipe → ℕ → Inputs
inputs_of p m = record { reply = input_signal 1 (2 * reply_place p m); word = input_signal (mem_at p m).width (2 * reply_place p m + 1) }

-- inputs, memories with their locks, ports, orders and stages stand in a circuit; the registers of the locks are below `low`, those of the ports from there up to `mid`, those of the orders up to `high`, and those of the stages from there on
pub record IsLayout {T : Type 0} (l : Members T) (a : Circuit) (x : StageLine) (locks : List (Option (MemLock T)))
    (forks : List (Option OrderRegs)) (low mid high : ℕ) : Type 0 where
  pub shared : IsShared a (line_form x) x.shared.now
  pub next : signals_in a x.shared.now.next ≡ next_signals a locks
  pub staged : AreStaged a (line_form x) (next_signals a locks) (answers_in a x.shared.now.ports.now) (locks_in l (line_pipe x) a locks) x.stages.now
  pub count : length x.stages.now ≡ length (line_pipe x).stages
  pub apart : AreApart high (length a.regs) x.stages.now
  pub locked : AreLocked l a (line_pipe x) locks
  pub lawful : AreLawful l a (line_pipe x) locks
  pub unwritten : AreUnwritten a (line_pipe x)
  pub locks_to : (m : ℕ) → m < length (line_pipe x).mems → (own_of (some_at locks m)).to ≤ low
  pub stand_ports : StandPorts a (line_pipe x) x.shared.now.ports.now
  pub ports_from : (m : ℕ) (q : PortRegs) → m < length (line_pipe x).mems → some_at x.shared.now.ports.now m ≡ Some q → low ≤ (port_laws.own q).from
  pub ports_to : (m : ℕ) (q : PortRegs) → m < length (line_pipe x).mems → some_at x.shared.now.ports.now m ≡ Some q → (port_laws.own q).to ≤ mid
  pub stand_orders : StandOrders a (line_pipe x) forks
  pub orders_from : (i : ℕ) (r : OrderRegs) → i < length (line_pipe x).stages → some_at forks i ≡ Some r → mid ≤ (order_laws.own r).from
  pub orders_to : (i : ℕ) (r : OrderRegs) → i < length (line_pipe x).stages → some_at forks i ≡ Some r → (order_laws.own r).to ≤ high
  pub order : (low ≤ mid) × (mid ≤ high) × (high ≤ length a.regs)
  pub reply : (m : ℕ) (q : PortRegs) → some_at x.shared.now.ports.now m ≡ Some q → signal a q.reply ≡ (inputs_of (line_pipe x) m).reply
  pub word : (m : ℕ) (q : PortRegs) → some_at x.shared.now.ports.now m ≡ Some q → signal a q.word ≡ (inputs_of (line_pipe x) m).word
  pub inputs : a.ports ≡ reply_ports (name_in (line_form x)) 0 (line_pipe x).mems
  pub shapes : shapes_of a ≡ shapes_in (line_form x).names (line_pipe x).mems

-- ---- all nets

-- the nets of a pipe: locks, orders, the line of stages, moves, requests and tails, and by stages and memories what steps go by
pub record Nets (T : Type 0) : Type 0 where
  pub locks : List (Option (MemLock T))
  pub orders : List (Option OrderRegs)
  pub line : StageLine
  pub moves : MoveNets
  pub requests : List (Option RequestNets)
  pub tails : TailNets
  pub ends : List StageEnd
  pub deeds : List StageDeeds
  pub commits : List (Option LockNets)

-- the ends of the stages of a line, with their moves and removals
pub record AreEndsOf (x : StageLine) (es : List StageEnd) : Type 0 where
  pub count : length es ≡ length x.stages.now
  pub ended : (k : ℕ) (s : StageNets) (e : StageEnd) → k < length es → IsAt x.stages.now k s → slice_index_or es k e ≡ e → e.ended.now ≡ s.end
  pub moves : (k : ℕ) (y : Net) (e : StageEnd) → k < length es → slice_index_or x.moves.now k y ≡ y → slice_index_or es k e ≡ e → e.moves ≡ y
  pub killed : (k : ℕ) (y : Net) (e : StageEnd) → k < length es → slice_index_or x.kills.now k y ≡ y → slice_index_or es k e ≡ e → e.killed ≡ y

-- what each stage does to the locks is given by its walk's end, its tickets and its move
pub record AreDeedsOf (x : StageLine) (ds : List StageDeeds) : Type 0 where
  pub count : length ds ≡ length x.stages.now
  pub ended : (k : ℕ) (s : StageNets) (d : StageDeeds) → k < length ds → IsAt x.stages.now k s → slice_index_or ds k d ≡ d → d.ended.now ≡ s.end
  pub tickets : (k : ℕ) (s : StageNets) (d : StageDeeds) → k < length ds → IsAt x.stages.now k s → slice_index_or ds k d ≡ d → d.tickets.now ≡ s.tickets
  pub moves : (k : ℕ) (y : Net) (d : StageDeeds) → k < length ds → slice_index_or x.moves.now k y ≡ y → slice_index_or ds k d ≡ d → d.moves ≡ y

-- the nets are made from circuit a to circuit g: first all nets, then what registers take next, and nothing of it changes up to circuit d
pub record Emission {T : Type 0} (l : Members T) (n : Nets T) : Type 0 where
  pub a : Circuit
  pub b : Circuit
  pub c : Circuit
  pub e : Circuit
  pub f : Circuit
  pub g : Circuit
  pub j : Circuit
  pub h : Circuit
  pub i : Circuit
  pub d : Circuit
  pub low : ℕ
  pub mid : ℕ
  pub high : ℕ
  pub can : CanEmit (line_form n.line)
  pub layout : IsLayout l a n.line n.locks n.orders low mid high
  -- who moves, and what is asked of delayed memories
  pub to_moves : Extends a b
  pub moved : AreMoved b n.line n.orders n.moves
  pub line_moves_are : n.line.moves.now ≡ n.moves.moves.items
  pub line_kills_are : n.line.kills.now ≡ n.moves.kills.items
  pub ends : AreEndsOf n.line n.ends
  pub deeds : AreDeedsOf n.line n.deeds
  pub to_requests : Extends b c
  pub asked : AreRequests b c (line_pipe n.line) n.ends n.requests (length (line_pipe n.line).mems)
  -- what the registers of stages, tails, ports, orders and locks take next, and before the locks the arrays of advisory memories
  pub line : IsLineIn c n.line
  pub takes : (k : ℕ) (s : StageNets) → k < length n.line.stages.now → IsAt n.line.stages.now k s → TakesNext c e n.line k s
  pub to_nexts : ExtendsBut (regs_of high (length c.regs)) c e
  pub cut : HasCut e f n.line n.moves.squashes.verify n.tails (verify_stage (line_pipe n.line).stmts)
  pub row : IsRow e f n.line n.tails.cut
  pub to_tails : Extends e f
  pub ports_stepped : (m : ℕ) → IsPortStepped f g (line_pipe n.line) n.ends n.line.shared.now.ports.now m
  pub to_ports : ExtendsParts (own_at port_laws.own n.line.shared.now.ports.now) (length (line_pipe n.line).mems) f g
  pub orders_stepped : (k : ℕ) → k < length (line_pipe n.line).stages → IsOrderStepped g j (line_pipe n.line) n.ends n.moves.squashes n.orders k
  pub to_orders : ExtendsParts (own_at order_laws.own n.orders) (length (line_pipe n.line).stages) g j
  pub to_advice : ExtendsAdvice (line_pipe n.line) j h (advises_in j n.deeds)
  pub stepped : AreStepped l i (line_pipe n.line)
      (steps_in h (line_pipe n.line) n.deeds n.moves.squash n.tails.cut) n.locks n.commits (length (line_pipe n.line).mems)
  pub to_locks : ExtendsLocks n.locks (length (line_pipe n.line).mems) h i
  -- and nothing changes after that
  pub keeps : Keeps i d
  pub nexts : (r : ℕ) → HasReg i r → next_signal d r ≡ next_signal i r
  pub writes : (k : ℕ) → HasArray i k → write_signals d k ≡ write_signals i k
  pub shapes : shapes_of d ≡ shapes_of i

-- ---- as the law of a netlist sees it

module _ {T : Type 0} (l : Members T) (n : Nets T) (em : Emission l n) where
  -- the locks, by the circuit in which they were laid out
  abbrev pub locks_of : Locks
  locks_of = locks_in l (line_pipe n.line) em.a n.locks

  -- the views of the stages, by the circuit with the requests
  abbrev pub views_of : ℕ → View
  views_of = line_views em.c n.line

  -- whether the threads of the stages move, by the circuit with the requests
  abbrev pub moves_of : ℕ → Signal
  moves_of = line_moves em.c n.line

  -- whether the port of a memory that is read delayed is free
  abbrev pub free_of : Option Reading → ℕ → Signal
  free_of None m = one
  free_of (Some r) m = signal_at (signals_in em.b (frees_at n.moves.frees.items r.stage)) m

  -- which stages squash, whom they remove and which are clear, by the circuit with the moves, and where the locks would be cut
  abbrev pub squashes_of : SquashSides
  squashes_of = record {
    squash = squashes_in em.b (line_pipe n.line) n.moves.squashes;
    removed = em.moved.removed;
    clear = em.moved.cleared;
    tails = tails_in em.f n.tails;
  }

  -- what stands beside the stages: the ports and the orders, and what squashes bring
  abbrev pub sides_of : Sides
  sides_of =
      sides_in em.d n.line.shared.now.ports.now (inputs_of (line_pipe n.line))
      (λ m. free_of (reading (line_pipe n.line) m) m) n.orders squashes_of

  -- gates by what stands beside the stages
  abbrev pub gates_of : Gates
  gates_of = record {
    gate =
        λ k. gate_where (line_pipe n.line) views_of
        (record { gate = λ j. one; kill = λ j. zero_bit; squash = signal em.b n.moves.squash; tail = λ m. zero_bit }) sides_of k;
    kill = line_kills em.c n.line;
    squash = signal em.b n.moves.squash;
    tail = λ m. signal_at (signals_in em.f n.tails.cut) m;
  }
