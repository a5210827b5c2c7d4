-- A stage on the way to what it begins with.
use Rattle.std.specs.Prelude.{◌≡◌, ℕ, ◌==◌, ◌<◌, Bool, true, false, ◌&&◌, ◌||◌, List, [], ◌∷◌, ◌++◌, length, map, slice_index, ◌⊎◌, Option, ⊤}
use Rattle.pdl_semantics.specs.Flat.{Pipe}
use Rattle.pdl_form.specs.Form.{Form}
use Rattle.pdl_form_types.specs.Stmts.{param_widths}
use Rattle.pdl_machine_facts.specs.Slots.{ways}
use Rattle.pdl_net.specs.declared.Net.{Net}
use Rattle.pdl_net.specs.declared.Net.TheVariants.{Reg as RegNet}
use Rattle.pdl_net.specs.Circuit.{Circuit}
use Rattle.pdl_net.specs.Signal.{Signal}
use Rattle.pdl_net.specs.Meaning.{signal, IsThere}
use Rattle.pdl_net.specs.HasWidth.{HasWidth}
use Rattle.pdl_pipe_exprs.specs.Nets.{NetsThere, signals_in, signal_at, widths_of}
use Rattle.pdl_pipe_exprs.specs.declared.bits.Bits.{Bits}
use Rattle.pdl_pipe_exprs.specs.Conditions.{AreBits}
use Rattle.pdl_law_parts.specs.declared.Mark.{Mark as MarkKind}
use Rattle.pdl_law_parts.specs.Lives.{mark_from}
use Rattle.pdl_law_parts.specs.Walk.{zero_bit, same_mark}
use Rattle.pdl_law_parts.specs.Views.{View}
use Rattle.pdl_pipe_walk.specs.declared.nets.MarkNet.{MarkNet}
use Rattle.pdl_pipe_walk.specs.Parts.{mark_in, mark_of}
use Rattle.pdl_pipe_walk.specs.declared.locks.MemLock.{MemLock}
use Rattle.pdl_pipe_walk.specs.Locked.{of_lock}
use Rattle.pdl_pipe_walk.specs.Sized.{IsWalk}
use Rattle.pdl_pipe_walk.specs.declared.nets.WalkNets.{WalkNets}
use Rattle.pdl_pipe_lives.specs.Needs.{goes_with, AreNeeds}
use Rattle.pdl_port.specs.Laws.{AnswerSignals}
use Rattle.pdl_pipe_answers.specs.law_sides.Sides.{with_answer}
use Rattle.pdl_pipe_answers.specs.Ports.{HasAnswers}
use Rattle.pdl_pipe_registers.specs.declared.nets.Item.{Item}
use Rattle.pdl_pipe_registers.specs.declared.nets.Item.TheVariants.{Var, Mark, Ticket, Guess}
use Rattle.pdl_pipe_registers.specs.declared.nets.StageRegs.{StageRegs}
use Rattle.pdl_pipe_registers.specs.declared.nets.Shared.{Shared}
use Rattle.pdl_pipe_registers.specs.declared.nets.Earlier.{Earlier}
use Rattle.pdl_pipe_registers.specs.declared.nets.StageNets.{StageNets}
use Rattle.pdl_pipe_registers.specs.Items.{IsOwn, IsConstant, item_width, first_value, ended_item}
use Rattle.pdl_pipe_registers.specs.Stages.{zero_signal, end_of, views_in, IsRegister, IsBegunBy, IsSettled, IsSpared}
use Rattle.pdl_word.specs.Each.{Each}

-- the next ticket of a lock, and this where there is none
abbrev pub ticket_net : {T : Type 0} → Net → Option (MemLock T) → Net
ticket_net none x = of_lock (λ y. y.regs.ticket) none x

-- what all stages share: the bits, the variables' zeros, the next tickets, and the ports of delayed memories
pub record IsShared (c : Circuit) (f : Form) (x : Shared) : Type 0 where
  pub bits : AreBits c x.bits
  pub zeros_there : NetsThere c x.zeros
  pub zeros : signals_in c x.zeros ≡ map zero_signal f.widths
  pub next_there : NetsThere c x.next
  pub next_count : length x.next ≡ length f.pipe.mems
  pub ports : HasAnswers c f.pipe x.ports.now

-- the end of a stage is there, with its tickets
pub record IsEnded (c : Circuit) (f : Form) (nexts : List Signal) (s : StageNets) : Type 0 where
  pub walk : IsWalk c f.pipe f.widths s.end
  pub tickets : NetsThere c s.tickets
  pub tickets_wide : widths_of (signals_in c s.tickets) ≡ widths_of nexts

-- the ends of all these stages are there, with their tickets
abbrev pub AreEnded : Circuit → Form → List Signal → List StageNets → Type 0
AreEnded c f nexts ss = Each (IsEnded c f nexts) ss

-- the stages before one, which may lead to it in these ways, and what threads need
pub record IsEarlier (c : Circuit) (f : Form) (nexts : List Signal) (x : Earlier) : Type 0 where
  pub ended : AreEnded c f nexts x.stages.now
  pub ways : x.ways.now ≡ ways f.pipe (length x.stages.now)
  pub low : Each (λ j. j < length x.stages.now) x.ways.now
  pub count : length nexts ≡ length f.pipe.mems
  pub needs : AreNeeds f x.needs.now

-- the views of the stages before one
abbrev pub earlier_views : Circuit → Earlier → ℕ → View
earlier_views c x = views_in c x.stages.now

-- how many stages are before
abbrev pub earlier_count : Earlier → ℕ
earlier_count x = length x.stages.now

-- something that a stage may keep is there
abbrev pub IsItem : Form → Item → Type 0
IsItem f (Var x) = x < length f.widths
IsItem f (Mark _ _ _) = ⊤
IsItem f (Ticket m) = m < length f.pipe.mems
IsItem f (Guess i) = i < length (param_widths f)

-- a net with which all stages that lead here end for an item, where it never changes; there is such a stage
pub record IsCommonNet (c : Circuit) (us : ℕ → View) (js : List ℕ) (i : Item) (x : Net) : Type 0 where
  pub there : IsThere c x
  pub constant : IsConstant (signal c x)
  pub some : 0 < length js
  pub same : (k : ℕ) → k < length js → ended_item (us (slice_index js k)) i ≡ signal c x

-- the registers of a stage and one more, which is for this item
abbrev pub with_item : StageRegs → Item → StageRegs
with_item r i = record r { items = r.items ++ i ∷ [] }

-- whether a mark of a location is among these
abbrev pub is_listed : List MarkNet → MarkKind → ℕ → ℕ → Bool
is_listed [] mark m a = false
is_listed (h ∷ hs) mark m a = (same_mark h.mark mark && ((h.mem == m) && (h.var == a))) || is_listed hs mark m a

-- one register more, for this item
pub record Adds (c : Circuit) (r r' : StageRegs) (i : Item) (w v : ℕ) (net : Net) : Type 0 where
  pub regs : r' ≡ with_item r i
  pub net_is : net ≡ RegNet (end_of r)
  pub register : IsRegister c (end_of r) w v

-- no register is added, and the signal of the net is so
pub record Leaves (c : Circuit) (r r' : StageRegs) (w : ℕ) (net : Net) (Settled : Signal → Type 0) : Type 0 where
  pub regs : r' ≡ r
  pub wide : HasWidth c net w
  pub settled : Settled (signal c net)

-- a register was added, or none and the signal is so
abbrev pub MayAdd : Circuit → StageRegs → StageRegs → Item → ℕ → ℕ → Net → (Signal → Type 0) → Type 0
MayAdd c r r' i w v net Settled = Adds c r r' i w v net ⊎ Leaves c r r' w net Settled

-- for an item of stage k that is needed where this is true: a register that it may have, or none and the signal is so
pub record MayBegin (c : Circuit) (f : Form) (nexts : List Signal) (k : ℕ) (needed : Bool) (r r' : StageRegs) (i : Item)
    (net : Net) (Settled : Signal → Type 0) : Type 0 where
  pub may : MayAdd c r r' i (item_width f nexts i) (first_value f.pipe k i) net (λ g. needed ≡ true → Settled g)
  pub own : (r' ≡ r) ⊎ IsOwn f k i

-- a list begins with another one
abbrev pub IsAtFront : List Item → List Item → Type 0
IsAtFront xs ys = (more : List Item) × (ys ≡ xs ++ more)

-- registers were added to those of a stage
pub record IsLonger (r r' : StageRegs) : Type 0 where
  pub valid : r'.valid ≡ r.valid
  pub items : IsAtFront r.items r'.items

-- what an item is settled as after these stages
abbrev pub IsSettledAfter : Circuit → Form → Earlier → Item → Signal → Type 0
IsSettledAfter c f x i g = IsSettled f.pipe (earlier_views c x) (earlier_count x) i g

-- an item needs no register after these stages, where the variables have these nets
abbrev pub IsSparedAfter : Circuit → Form → Earlier → List Net → Item → Signal → Type 0
IsSparedAfter c f x vars i g = IsSpared f.pipe (earlier_views c x) (earlier_count x) (signals_in c vars) i g

-- nets of these widths, one for each item of a kind; those that are needed are registers, or their signals are so
pub record AreBegun (c : Circuit) (f : Form) (nexts : List Signal) (r : StageRegs) (item : ℕ → Item) (needed : ℕ → Bool)
    (Settled : ℕ → Signal → Type 0) (ws : List ℕ) (xs : List Net) : Type 0 where
  pub there : NetsThere c xs
  pub wide : widths_of (signals_in c xs) ≡ ws
  pub begun : (i : ℕ) → i < length ws → needed i ≡ true → IsBegunBy f nexts r (item i) (signal_at (signals_in c xs) i) (Settled i)

-- a mark that was listed still is
abbrev pub AreStillListed : List MarkNet → List MarkNet → Type 0
AreStillListed hs xs = (mark : MarkKind) (m v : ℕ) → is_listed hs mark m v ≡ true → is_listed xs mark m v ≡ true

-- marks of locations, each once
pub record AreMarksBegun (c : Circuit) (f : Form) (nexts : List Signal) (us : ℕ → View) (k : ℕ) (r : StageRegs) (hs : List MarkNet) : Type 0 where
  pub there : Each (λ (h : MarkNet). IsThere c h.net) hs
  pub one : Each (λ (h : MarkNet). (signal c h.net).width ≡ 1) hs
  pub begun : (mark : MarkKind) (m v : ℕ) → is_listed hs mark m v ≡ true
      → IsBegunBy f nexts r (Mark mark m v) (mark_of (map (mark_in c) hs) mark m v) (IsSettled f.pipe us k (Mark mark m v))

-- a mark that is asked for from stage k on is listed, or the location of a thread that comes out of a stage with this view doesn't have it
abbrev pub HasAllMarks : Pipe → ℕ → View → List MarkNet → Type 0
HasAllMarks p k u hs =
    (mark : MarkKind) (m v : ℕ) → mark_from p k mark m v ≡ true → is_listed hs mark m v ≡ false → u.ended.marks mark m v ≡ zero_bit

-- one mark more, where it is asked for and not yet listed
abbrev pub AddsMark : Circuit → Form → List Signal → (ℕ → View) → ℕ → MarkKind → ℕ → ℕ → StageRegs → List MarkNet → StageRegs → List MarkNet → Type 0
AddsMark c f nexts us k mark m v r hs r' hs' =
    ((r' ≡ r) × (hs' ≡ hs) × (mark_from f.pipe k mark m v ≡ true → is_listed hs mark m v ≡ true))
    ⊎ ((net : Net) × MayAdd c r r' (Mark mark m v) 1 0 net (IsSettled f.pipe us k (Mark mark m v))
    × (hs' ≡ hs ++ record { mark = mark; mem = m; var = v; net = net } ∷ []) × (is_listed hs mark m v ≡ false))

-- where a thread has no ticket of its own it is the next one
abbrev pub AreNextTickets : Circuit → Pipe → List Signal → ℕ → List Net → Type 0
AreNextTickets c p nexts k xs = (m : ℕ) → m < length p.mems → goes_with p k m ≡ false → signal_at (signals_in c xs) m ≡ signal_at nexts m

-- each variable with the answers of this cycle
pub record AreAnswered (c : Circuit) (f : Form) (answers : ℕ → ℕ → AnswerSignals) (k : ℕ) (vars xs : List Net) : Type 0 where
  pub there : NetsThere c xs
  pub wide : widths_of (signals_in c xs) ≡ f.widths
  pub answered : (x : ℕ) → x < length f.widths → signal_at (signals_in c xs) x ≡ with_answer f.pipe answers k x (signal_at (signals_in c vars) x)

-- a walk before its first statement: with these variables, marks and guess
pub record IsFresh (bits : Bits) (vars : List Net) (marks : List MarkNet) (guess : List Net) (w : WalkNets) : Type 0 where
  pub vars_is : w.vars.items ≡ vars
  pub marks_is : w.marks.items ≡ marks
  pub guess_is : w.guess ≡ guess
  pub ready : w.ready ≡ bits.one
  pub reserves : w.reserves ≡ []
  pub puts : w.puts ≡ []
  pub lettings : w.lettings ≡ []
  pub births : w.births.items ≡ []
  pub asks : w.asks ≡ []
  pub advises : w.advises ≡ []
  pub fails : w.fails ≡ bits.zero
  pub barrier : w.barrier ≡ bits.zero
