-- What a stage keeps of its thread: variables, marks of locations, tickets, the arguments of its guess.
use Rattle.std.specs.Prelude.{◌≡◌, ℕ, zero, suc, ◌<◌, ◌≤◌, Bool, false, ◌&&◌, List, slice_index, slice_index_or, length, nat_lt, ⊤}
use Rattle.pdl_semantics.specs.Flat.{Pipe}
use Rattle.pdl_form.specs.Form.{Form}
use Rattle.pdl_net.specs.Signal.{Signal, const_signal}
use Rattle.pdl_pipe_exprs.specs.Nets.{signal_at}
use Rattle.pdl_law_parts.specs.Lives.{lives_from, mark_from, verifies_from}
use Rattle.pdl_law_parts.specs.Walk.{zero_bit}
use Rattle.pdl_law_parts.specs.Views.{View, Comer}
use Rattle.pdl_pipe_lives.specs.Needs.{goes_with}
use Rattle.pdl_pipe_answers.specs.Readings.{gets_answer}
use Rattle.pdl_pipe_registers.specs.declared.nets.Item.{Item}
use Rattle.pdl_pipe_registers.specs.declared.nets.Item.TheVariants.{Var, Mark, Ticket, Guess}

-- the item of the i-th register
abbrev pub item_at : List Item → ℕ → Item
item_at xs i = slice_index_or xs i (Var 0)

-- whether a thread needs an item in stage k
abbrev pub is_needed : Pipe → ℕ → Item → Bool
is_needed p k (Var x) = lives_from p k x
is_needed p k (Mark mark m a) = mark_from p k mark m a
is_needed p k (Ticket m) = goes_with p k m
is_needed p k (Guess i) = verifies_from p k && nat_lt i (length p.start)

-- an item as a stage keeps it
abbrev pub kept_item : View → Item → Signal
kept_item v (Var x) = v.kept x
kept_item v (Mark mark m a) = v.begun.marks mark m a
kept_item v (Ticket m) = v.tickets m
kept_item v (Guess i) = signal_at v.begun.guess i

-- an item as a stage has it after its rows
abbrev pub ended_item : View → Item → Signal
ended_item v (Var x) = v.ended.vars x
ended_item v (Mark mark m a) = v.ended.marks mark m a
ended_item v (Ticket m) = v.tickets m
ended_item v (Guess i) = signal_at v.ended.guess i

-- an item as a thread that comes brings it
abbrev pub comer_item : Item → Comer → Signal
comer_item (Var x) o = o.vars x
comer_item (Mark mark m a) o = o.marks mark m a
comer_item (Ticket m) o = o.tickets m
comer_item (Guess i) o = o.guess i

-- the width of its register, where the next tickets of the locks have these signals
abbrev pub item_width : Form → List Signal → Item → ℕ
item_width f nexts (Var x) = slice_index f.widths x
item_width f nexts (Mark _ _ _) = 1
item_width f nexts (Ticket m) = (signal_at nexts m).width
item_width f nexts (Guess i) = slice_index f.widths i

-- what its register holds at reset: in stage 0 the first thread's argument
abbrev pub start_value : Pipe → ℕ → ℕ → ℕ
start_value p zero x = slice_index p.start x
start_value p (suc k) x = 0

-- what the register of an item of stage k holds at reset: 0, but for a variable of stage 0
abbrev pub first_value : Pipe → ℕ → Item → ℕ
first_value p k (Var x) = start_value p k x
first_value p k (Mark _ _ _) = 0
first_value p k (Ticket m) = 0
first_value p k (Guess i) = 0

-- what may have a register in stage k: in the first one a parameter, in another a variable, a mark of a location, a memory's ticket, an argument of the guess
abbrev pub IsOwn : Form → ℕ → Item → Type 0
IsOwn f zero (Var x) = x < length f.pipe.start
IsOwn f zero (Mark _ _ _) = ⊥
IsOwn f zero (Ticket m) = ⊥
IsOwn f zero (Guess i) = ⊥
IsOwn f (suc k) (Var x) = x < length f.widths
IsOwn f (suc k) (Mark _ _ _) = ⊤
IsOwn f (suc k) (Ticket m) = m < length f.pipe.mems
IsOwn f (suc k) (Guess i) = i < length f.pipe.start

-- a signal that never changes
abbrev pub IsConstant : Signal → Type 0
IsConstant f = (w v : ℕ) × (f ≡ const_signal w v)

-- as in stage 0: a variable that is no parameter is zero, and no location has a mark
abbrev pub IsZero : Pipe → Item → Signal → Type 0
IsZero p (Var x) f = (length p.start ≤ x) × ((w : ℕ) × (f ≡ const_signal w 0))
IsZero p (Mark _ _ _) f = f ≡ zero_bit
IsZero p (Ticket m) f = f ≡ zero_bit
IsZero p (Guess i) f = (w : ℕ) × (f ≡ const_signal w 0)

-- a thread may get it in stage k by an answer
abbrev pub is_answered : Pipe → ℕ → Item → Bool
is_answered p k (Var x) = gets_answer p k x
is_answered p k (Mark _ _ _) = false
is_answered p k (Ticket m) = false
is_answered p k (Guess i) = false
