-- What a thread that comes brings: that it is there, or an item.
use Rattle.std.specs.Prelude.{◌≡◌, ℕ, ◌<◌, List, length, Option, Some, None, ⊤}
use Rattle.pdl_semantics.specs.Flat.{Pipe}
use Rattle.pdl_form.specs.Form.{Form}
use Rattle.pdl_form_types.specs.Stmts.{param_widths}
use Rattle.pdl_net.specs.Circuit.{Circuit}
use Rattle.pdl_net.specs.Signal.{Signal, no_signal}
use Rattle.pdl_net.specs.HasWidth.{HasWidth}
use Rattle.pdl_pipe_exprs.specs.Nets.{NetsThere, signals_in, signal_at, widths_of}
use Rattle.pdl_law_parts.specs.Walk.{one}
use Rattle.pdl_law_parts.specs.Views.{View, Comer, new_from}
use Rattle.pdl_pipe_walk.specs.declared.nets.BirthNet.{BirthNet}
use Rattle.pdl_pipe_registers.specs.declared.nets.Item.{Item}
use Rattle.pdl_pipe_registers.specs.declared.nets.Item.TheVariants.{Var, Mark, Ticket, Guess}
use Rattle.pdl_pipe_registers.specs.Items.{comer_item, ended_item, item_width}
use Rattle.pdl_pipe_registers.specs.Begun.{IsItem}
use Rattle.pdl_pipe_nexts.specs.declared.line.StageLine.{StageLine}
use Rattle.pdl_pipe_nexts.specs.Lines.{line_views, line_moves}

-- what one that may come brings: that it is there, or the signal of this item
abbrev pub brought_signal : Option Item → Comer → Signal
brought_signal None o = one
brought_signal (Some i) o = comer_item i o

-- what a thread out of a stage with this view brings
abbrev pub brought_out : Option Item → View → Signal
brought_out None v = one
brought_out (Some i) v = ended_item v i

-- the signal of an item among the arguments of a call: that of a variable, and none for any other item
abbrev pub argument_signal : Item → List Signal → Signal
argument_signal (Var x) args = signal_at args x
argument_signal (Mark _ _ _) args = no_signal
argument_signal (Ticket m) args = no_signal
argument_signal (Guess i) args = no_signal

-- what a new thread brings, whose call has these arguments
abbrev pub brought_new : Option Item → List Signal → Signal
brought_new None args = one
brought_new (Some i) args = argument_signal i args

-- how wide the signal is that a thread brings
abbrev pub brought_width : Form → List Signal → Option Item → ℕ
brought_width f nexts None = 1
brought_width f nexts (Some i) = item_width f nexts i

-- what a thread can bring: that it is there, or an item of the form
abbrev pub IsBrought : Form → Option Item → Type 0
IsBrought f None = ⊤
IsBrought f (Some i) = IsItem f i

-- an item that is an argument of new threads: one of the first variables
abbrev pub IsArgumentItem : Pipe → Item → Type 0
IsArgumentItem p (Var x) = x < length p.start
IsArgumentItem p (Mark _ _ _) = ⊥
IsArgumentItem p (Ticket m) = ⊥
IsArgumentItem p (Guess i) = ⊥

-- what a new thread can bring: that it is there, or one of its arguments
abbrev pub IsArgument : Pipe → Option Item → Type 0
IsArgument p None = ⊤
IsArgument p (Some i) = IsArgumentItem p i

-- a call's nets are there: its condition, and an argument for each parameter
pub record IsBirth (c : Circuit) (f : Form) (b : BirthNet) : Type 0 where
  pub on : HasWidth c b.on 1
  pub args : NetsThere c b.args
  pub wide : widths_of (signals_in c b.args) ≡ param_widths f

-- the new threads that the calls of all stages bring
abbrev pub new_in : Circuit → StageLine → List Comer
new_in c x = new_from (line_views c x) (line_moves c x) (length x.stages.now) 0
