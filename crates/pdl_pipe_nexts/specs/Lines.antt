-- The stages of a line in a circuit.
use Rattle.std.specs.Prelude.{◌≡◌, ℕ, ◌<◌, ◌≤◌, Bool, List, length, if◌then◌else◌}
use Rattle.pdl_word.specs.Each.{Each}
use Rattle.pdl_semantics.specs.Flat.{Pipe}
use Rattle.pdl_form.specs.Form.{Form}
use Rattle.pdl_form.specs.FormView.{form}
use Rattle.pdl_form_types.specs.Stmts.{AreForks}
use Rattle.pdl_net.specs.declared.Net.{Net}
use Rattle.pdl_net.specs.Circuit.{Circuit, State}
use Rattle.pdl_net.specs.Signal.{Signal}
use Rattle.pdl_net.specs.HasWidth.{HasWidth}
use Rattle.pdl_pipe_exprs.specs.Nets.{signals_in, signal_at}
use Rattle.pdl_law_parts.specs.Walk.{one, zero_bit}
use Rattle.pdl_law_parts.specs.Views.{View}
use Rattle.pdl_pipe_walk.specs.Sized.{IsWalk}
use Rattle.pdl_pipe_registers.specs.declared.nets.StageNets.{StageNets}
use Rattle.pdl_pipe_registers.specs.Stages.{views_in, HasRegisters, AreOwn, IsThereBegun, IsAt}
use Rattle.pdl_pipe_registers.specs.Begun.{IsShared}
use Rattle.pdl_pipe_nexts.specs.declared.line.StageLine.{StageLine}

-- a bit that never changes
abbrev pub bit_signal : Bool → Signal
bit_signal on = if on then one else zero_bit

-- two signals have one value in each state
abbrev pub ValueAs : Signal → Signal → Type 0
ValueAs f g = (s : State) → f.value s ≡ g.value s

-- a net is there, with 1 bit
abbrev pub IsBit : Circuit → Net → Type 0
IsBit c x = HasWidth c x 1

-- the form of a line's pipe
abbrev pub line_form : StageLine → Form
line_form x = form x.pipe.now

-- the flat pipe of a line
abbrev pub line_pipe : StageLine → Pipe
line_pipe x = (line_form x).pipe

-- the views of a line's stages
abbrev pub line_views : Circuit → StageLine → ℕ → View
line_views c x = views_in c x.stages.now

-- whether the thread of stage k of a line moves
abbrev pub line_moves : Circuit → StageLine → ℕ → Signal
line_moves c x k = signal_at (signals_in c x.moves.now) k

-- whether the thread of stage k of a line is removed
abbrev pub line_kills : Circuit → StageLine → ℕ → Signal
line_kills c x k = signal_at (signals_in c x.kills.now) k

-- stage k of a line: its registers, what it begins with, and its nets after its statements
pub record IsStageNow (c : Circuit) (f : Form) (nexts : List Signal) (k : ℕ) (s : StageNets) : Type 0 where
  pub registers : HasRegisters c f nexts k s.regs
  pub own : AreOwn f k s.regs
  pub nets : IsThereBegun c f nexts s
  pub walk : IsWalk c f.pipe f.widths s.end

-- the nets of a line are there: a stage, its move and its removal for each stage of the pipe
pub record IsLineIn (c : Circuit) (x : StageLine) : Type 0 where
  pub shared : IsShared c (line_form x) x.shared.now
  pub count : length x.stages.now ≡ length (line_pipe x).stages
  pub stages : (k : ℕ) (s : StageNets) → k < length x.stages.now → IsAt x.stages.now k s → IsStageNow c (line_form x) (signals_in c x.shared.now.next) k s
  pub moves_count : length x.moves.now ≡ length x.stages.now
  pub moves : Each (IsBit c) x.moves.now
  pub kills_count : length x.kills.now ≡ length x.stages.now
  pub kills : Each (IsBit c) x.kills.now
  pub forks : AreForks (line_form x).widths (line_pipe x).stages
  pub params : length (line_pipe x).start ≤ length (line_form x).widths
