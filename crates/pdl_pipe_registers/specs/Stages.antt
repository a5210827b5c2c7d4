-- The stages of a circuit by their nets, and what they begin with.
use Rattle.std.specs.Prelude.{◌≡◌, ℕ, zero, suc, ◌+◌, ◌==◌, ◌<◌, true, false, List, [], length, map, slice_index_or, take, if◌then◌else◌, ◌⊎◌}
use Rattle.pdl_semantics.specs.Flat.{Pipe}
use Rattle.pdl_form.specs.Form.{Form}
use Rattle.pdl_machine_facts.specs.Slots.{ways}
use Rattle.pdl_port.specs.Laws.{AnswerSignals}
use Rattle.pdl_pipe_answers.specs.law_sides.Sides.{with_answer}
use Rattle.pdl_net.specs.declared.Net.TheVariants.{Reg as RegNet}
use Rattle.pdl_net.specs.Circuit.{Circuit, HasReg, reg_width, reg_reset}
use Rattle.pdl_net.specs.Signal.{Signal, no_signal, reg_signal, const_signal}
use Rattle.pdl_net.specs.Meaning.{signal, IsThere}
use Rattle.pdl_pipe_exprs.specs.Nets.{NetsThere, signals_in, signal_at, widths_of}
use Rattle.pdl_law_parts.specs.Walk.{Walk, one, zero_bit}
use Rattle.pdl_law_parts.specs.Views.{View}
use Rattle.pdl_pipe_lives.specs.Needs.{goes_with}
use Rattle.pdl_pipe_walk.specs.declared.nets.MarkNet.{MarkNet}
use Rattle.pdl_pipe_walk.specs.Parts.{Parts, MarkSignal, walk_of, mark_in, walk_in}
use Rattle.pdl_pipe_walk.specs.Locked.{tickets_in}
use Rattle.pdl_pipe_walk.specs.Sized.{IsWalk}
use Rattle.pdl_pipe_registers.specs.declared.nets.Item.{Item}
use Rattle.pdl_pipe_registers.specs.declared.nets.Item.TheVariants.{Var, Mark, Ticket, Guess}
use Rattle.pdl_pipe_registers.specs.declared.nets.StageRegs.{StageRegs}
use Rattle.pdl_pipe_registers.specs.declared.nets.StageNets.{StageNets}
use Rattle.pdl_pipe_registers.specs.Items.{item_at, is_needed, is_answered, kept_item, ended_item, item_width, first_value, IsOwn, IsConstant, IsZero}
use Rattle.pdl_word.specs.Each.{Each}

-- ---- views

-- the constant 0 of this width
abbrev pub zero_signal : ℕ → Signal
zero_signal w = const_signal w 0

-- a stage as it begins: its variables with this cycle's answers
abbrev pub begun_parts : Circuit → StageNets → Parts
begun_parts c s =
    record {
      vars = signals_in c s.begun;
      marks = map (mark_in c) s.marks;
      ready = one;
      reserves = [];
      puts = [];
      lettings = [];
      births = [];
      asks = [];
      advises = [];
      guess = signals_in c s.guess;
      fails = zero_bit;
      barrier = zero_bit;
    }

-- a stage by its nets in a circuit
abbrev pub view_in : Circuit → StageNets → View
view_in c s =
    record {
      valid = reg_signal 1 s.regs.valid;
      kept = λ x. signal_at (signals_in c s.vars) x;
      tickets = tickets_in c s.tickets;
      begun = walk_of (begun_parts c s);
      ended = walk_in c s.end;
    }

-- a walk without variables, in which nothing is asked and nothing done
abbrev pub no_walk : Walk
no_walk =
    walk_of
    (record {
      vars = [];
      marks = [];
      ready = one;
      reserves = [];
      puts = [];
      lettings = [];
      births = [];
      asks = [];
      advises = [];
      guess = [];
      fails = zero_bit;
      barrier = zero_bit;
    })

-- a stage that holds no thread and does nothing
abbrev pub no_view : View
no_view = record { valid = zero_bit; kept = λ x. no_signal; tickets = λ m. no_signal; begun = no_walk; ended = no_walk }

-- the views of all stages by their numbers
abbrev pub views_in : Circuit → List StageNets → ℕ → View
views_in c ss k = slice_index_or (map (view_in c) ss) k no_view

-- a stage stands at a number
abbrev pub IsAt : List StageNets → ℕ → StageNets → Type 0
IsAt ss k s = slice_index_or ss k s ≡ s

-- ---- registers

-- a register is there, with this width, and this value at reset
pub record IsRegister (c : Circuit) (r w v : ℕ) : Type 0 where
  pub has : HasReg c r
  pub there : IsThere c (RegNet r)
  pub same : signal c (RegNet r) ≡ reg_signal w r
  pub width : reg_width c r ≡ w
  pub reset : reg_reset c r ≡ v

-- where the i-th item of a stage is kept
abbrev pub reg_of : StageRegs → ℕ → ℕ
reg_of r i = suc (r.valid + i)

-- the first register after those of a stage
abbrev pub end_of : StageRegs → ℕ
end_of r = reg_of r (length r.items)

-- the registers of stage k
pub record HasRegisters (c : Circuit) (f : Form) (nexts : List Signal) (k : ℕ) (r : StageRegs) : Type 0 where
  pub valid : IsRegister c r.valid 1 (if k == 0 then 1 else 0)
  pub kept : (i : ℕ) → i < length r.items → IsRegister c (reg_of r i) (item_width f nexts (item_at r.items i)) (first_value f.pipe k (item_at r.items i))

-- the registers of stage k, which are the last ones
pub record IsFrame (c : Circuit) (f : Form) (nexts : List Signal) (k : ℕ) (r : StageRegs) : Type 0 where
  pub last : end_of r ≡ length c.regs
  pub registers : HasRegisters c f nexts k r

-- each register of stage k keeps an item that it may
abbrev pub AreOwn : Form → ℕ → StageRegs → Type 0
AreOwn f k r = (i : ℕ) → i < length r.items → IsOwn f k (item_at r.items i)

-- ---- what a stage begins with

-- the signal of an item is one of these registers, or as this says
abbrev pub IsBegunBy : Form → List Signal → StageRegs → Item → Signal → (Signal → Type 0) → Type 0
IsBegunBy f nexts r i g Settled =
    ((j : ℕ) × (j < length r.items) × (item_at r.items j ≡ i) × (g ≡ reg_signal (item_width f nexts i) (reg_of r j))) ⊎ Settled g

-- the nets with which a stage begins are there, with their widths
pub record IsThereBegun (c : Circuit) (f : Form) (nexts : List Signal) (s : StageNets) : Type 0 where
  pub vars : NetsThere c s.vars
  pub vars_wide : widths_of (signals_in c s.vars) ≡ f.widths
  pub begun : NetsThere c s.begun
  pub begun_wide : widths_of (signals_in c s.begun) ≡ f.widths
  pub marks : Each (λ (h : MarkNet). IsThere c h.net) s.marks
  pub marks_one : Each (λ (h : MarkSignal). h.signal.width ≡ 1) (map (mark_in c) s.marks)
  pub tickets : NetsThere c s.tickets
  pub tickets_wide : widths_of (signals_in c s.tickets) ≡ widths_of nexts
  pub guess : NetsThere c s.guess
  pub guess_wide : widths_of (signals_in c s.guess) ≡ take (length f.pipe.start) f.widths

-- where a thread has no ticket of its own it is the next one
abbrev pub HasTickets : Circuit → Pipe → List Signal → ℕ → StageNets → Type 0
HasTickets c p nexts k s = (m : ℕ) → m < length p.mems → goes_with p k m ≡ false → tickets_in c s.tickets m ≡ signal_at nexts m

-- of stage k, after stages with these views: all that lead here end with the same constant, and no answer comes for it
pub record IsCommon (p : Pipe) (us : ℕ → View) (k : ℕ) (i : Item) (g : Signal) : Type 0 where
  pub constant : IsConstant g
  pub same : Each (λ j. ended_item (us j) i ≡ g) (ways p k)
  pub unanswered : is_answered p k i ≡ false

-- an item of stage k has this signal whoever comes: in the first stage a zero, in another one the constant of all that lead here
abbrev pub IsSettled : Pipe → (ℕ → View) → ℕ → Item → Signal → Type 0
IsSettled p us zero i g = IsZero p i g
IsSettled p us (suc k) i g = IsCommon p us (suc k) i g

-- of stage k: all that lead here, at least one, end with one signal for an argument of the guess and for a variable that is needed and gets no answer
pub record IsTwin (p : Pipe) (us : ℕ → View) (k i x : ℕ) : Type 0 where
  pub later : 0 < k
  pub some : 0 < length (ways p k)
  pub same : Each (λ j. ended_item (us j) (Guess i) ≡ ended_item (us j) (Var x)) (ways p k)
  pub needed : is_needed p k (Var x) ≡ true
  pub unanswered : is_answered p k (Var x) ≡ false

-- an argument of the guess that has the signal of such a variable among these
pub record IsAsVariable (p : Pipe) (us : ℕ → View) (k : ℕ) (vars : List Signal) (i : ℕ) (g : Signal) : Type 0 where
  pub x : ℕ
  pub twin : IsTwin p us k i x
  pub is : g ≡ signal_at vars x

-- an item of stage k needs no register of its own, where the variables have these signals
abbrev pub IsSpared : Pipe → (ℕ → View) → ℕ → List Signal → Item → Signal → Type 0
IsSpared p us k vars (Var x) g = IsSettled p us k (Var x) g
IsSpared p us k vars (Mark mark m a) g = IsSettled p us k (Mark mark m a) g
IsSpared p us k vars (Ticket m) g = IsSettled p us k (Ticket m) g
IsSpared p us k vars (Guess i) g = IsSettled p us k (Guess i) g ⊎ IsAsVariable p us k vars i g

-- the variables of stage k with the answers of these ports
abbrev pub HasAnswered : Circuit → Form → (ℕ → ℕ → AnswerSignals) → ℕ → StageNets → Type 0
HasAnswered c f answers k s =
    (x : ℕ) → x < length f.widths → signal_at (signals_in c s.begun) x ≡ with_answer f.pipe answers k x (signal_at (signals_in c s.vars) x)

-- what stage k keeps, and what it needs no register for, after stages with these views
abbrev pub HasKept : Circuit → Form → List Signal → (ℕ → View) → ℕ → StageNets → Type 0
HasKept c f nexts us k s =
    (i : Item) → is_needed f.pipe k i ≡ true → IsBegunBy f nexts s.regs i (kept_item (view_in c s) i) (IsSpared f.pipe us k (signals_in c s.vars) i)

-- stage k before its rows
pub record IsBegun (c : Circuit) (f : Form) (nexts : List Signal) (answers : ℕ → ℕ → AnswerSignals) (us : ℕ → View) (k : ℕ) (s : StageNets) : Type 0 where
  pub frame : IsFrame c f nexts k s.regs
  pub own : AreOwn f k s.regs
  pub nets : IsThereBegun c f nexts s
  pub tickets : HasTickets c f.pipe nexts k s
  pub kept : HasKept c f nexts us k s
  pub answered : HasAnswered c f answers k s
  pub walk : walk_in c s.end ≡ walk_of (begun_parts c s)
  pub sized : IsWalk c f.pipe f.widths s.end
