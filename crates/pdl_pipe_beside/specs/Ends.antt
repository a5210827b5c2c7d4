-- Stages after their statements, in signals: what each does, whether its thread moves, and whether it is removed.
use Rattle.std.specs.Prelude.{◌≡◌, ℕ, List, [], map, length, slice_index_or}
use Rattle.pdl_form.specs.Form.{Form}
use Rattle.pdl_net.specs.Circuit.{Circuit}
use Rattle.pdl_net.specs.Signal.{Signal, no_signal}
use Rattle.pdl_net.specs.Meaning.{signal}
use Rattle.pdl_net.specs.HasWidth.{HasWidth}
use Rattle.pdl_pipe_exprs.specs.Nets.{signal_at}
use Rattle.pdl_law_parts.specs.Walk.{Walk, one, zero_bit}
use Rattle.pdl_law_parts.specs.Views.{View}
use Rattle.pdl_pipe_walk.specs.Parts.{walk_of, walk_in}
use Rattle.pdl_pipe_walk.specs.Sized.{IsWalk}
use Rattle.pdl_word.specs.Each.{Each}
use Rattle.pdl_pipe_beside.specs.declared.ends.StageEnd.{StageEnd}

-- a stage of which only what it does is known
abbrev pub view_of : Walk → View
view_of w = record { valid = zero_bit; kept = λ x. no_signal; tickets = λ m. no_signal; begun = w; ended = w }

-- a stage that does nothing
abbrev pub no_view : View
no_view =
    view_of
    (walk_of
    (record {
      vars = [];
      marks = [];
      ready = one;
      reserves = [];
      puts = [];
      lettings = [];
      births = [];
      asks = [];
      advises = [];
      guess = [];
      fails = zero_bit;
      barrier = zero_bit;
    }))

-- a stage by its nets in a circuit, of which only what it does is known
abbrev pub view_in : Circuit → StageEnd → View
view_in c e = view_of (walk_in c e.ended.now)

-- the stages by their numbers
abbrev pub ends_in : Circuit → List StageEnd → ℕ → View
ends_in c es k = slice_index_or (map (view_in c) es) k no_view

-- whether a stage's thread moves
abbrev pub move_in : Circuit → StageEnd → Signal
move_in c e = signal c e.moves

-- whether a stage's thread is removed
abbrev pub kill_in : Circuit → StageEnd → Signal
kill_in c e = signal c e.killed

-- whether the thread of stage k moves
abbrev pub moves_in : Circuit → List StageEnd → ℕ → Signal
moves_in c es k = signal_at (map (move_in c) es) k

-- whether the thread of stage k is removed
abbrev pub kills_in : Circuit → List StageEnd → ℕ → Signal
kills_in c es k = signal_at (map (kill_in c) es) k

-- a stage's nets are there, with their widths
pub record IsEnd (c : Circuit) (f : Form) (e : StageEnd) : Type 0 where
  pub walk : IsWalk c f.pipe f.widths e.ended.now
  pub moves : HasWidth c e.moves 1
  pub killed : HasWidth c e.killed 1

-- the nets of all stages are there, with their widths
pub record AreEnds (c : Circuit) (f : Form) (es : List StageEnd) : Type 0 where
  pub count : length es ≡ length f.pipe.stages
  pub each : Each (IsEnd c f) es
