-- What the gates of stages go by, in signals, and a gate.
use Rattle.std.specs.Prelude.{◌≡◌, ℕ, List, length, Option}
use Rattle.pdl_word.specs.Each.{Each}
use Rattle.pdl_semantics.specs.Flat.{Pipe}
use Rattle.pdl_semantics.specs.Stages.{stage_at, verify_stage}
use Rattle.pdl_semantics.specs.Updates.{squash_stages}
use Rattle.pdl_net.specs.Circuit.{Circuit}
use Rattle.pdl_net.specs.declared.Net.{Net}
use Rattle.pdl_order.specs.declared.OrderRegs.{OrderRegs}
use Rattle.pdl_net.specs.Signal.{Signal}
use Rattle.pdl_port.specs.Laws.{AnswerSignals}
use Rattle.pdl_law_parts.specs.Walk.{both}
use Rattle.pdl_law_parts.specs.Views.{View, way_on}
use Rattle.pdl_pipe_exprs.specs.Nets.{signals_in, signal_at}
use Rattle.pdl_law_sides.specs.Sides.{all_answered, unsquashed, barrier_open}
use Rattle.pdl_pipe_answers.specs.Ports.{IsBit, answers_in}
use Rattle.pdl_pipe_beside.specs.declared.ends.Squashes.{Squashes}
use Rattle.pdl_pipe_beside.specs.Squashed.{squashes_in, HasSquashes}
use Rattle.pdl_pipe_nexts.specs.declared.line.StageLine.{StageLine}
use Rattle.pdl_pipe_nexts.specs.Lines.{line_pipe}
use Rattle.pdl_pipe_moves.specs.declared.controls.Controls.{Controls}
use Rattle.pdl_pipe_moves.specs.Gates.{opens_by, turn_in, HasTurns}

-- the answers of delayed memories, whose turn it is to go out of a stage into another one, whether a stage squashes, and which stages are clear for a barrier
pub record Signs : Type 0 where
  pub answers : ℕ → ℕ → AnswerSignals
  pub turns : ℕ → ℕ → Signal
  pub squash : ℕ → Signal
  pub clear : ℕ → Signal

-- the ports that the thread asks are free, no barrier holds it, and it is its turn
abbrev pub path_by : Pipe → (ℕ → View) → Signs → (ℕ → Signal) → ℕ → Signal
path_by p vs g frees k =
    both (opens_by frees (vs k).ended.asks)
    (both (barrier_open (verify_stage p.stmts) k (vs k).ended.barrier (g.clear k)) (way_on (stage_at p k).next (g.turns k) (vs k).ended))

-- a stage's gate: its thread awaits no answer, no squash keeps it, and its path is open
abbrev pub gate_by : Pipe → (ℕ → View) → Signs → (ℕ → Signal) → ℕ → Signal
gate_by p vs g frees k = both (all_answered p g.answers k (length p.mems) 0) (both (unsquashed (squash_stages p.stmts) k g.squash) (path_by p vs g frees k))

-- what the gates of a line go by, by nets: the orders of the forks, whether stages squash, and which stages are clear
abbrev pub signs_in : Circuit → StageLine → List (Option OrderRegs) → Squashes → List Net → Signs
signs_in c x orders squashes clear = record {
  answers = answers_in c x.shared.now.ports.now;
  turns = turn_in c (line_pipe x) orders;
  squash = squashes_in c (line_pipe x) squashes;
  clear = λ k. signal_at (signals_in c clear) k;
}

-- what the gates of a line go by, by the nets of these controls
abbrev pub signs_by : Circuit → StageLine → Controls → Signs
signs_by c x y = signs_in c x y.orders.now y.squashes y.clear.now

-- the nets of these controls are there
pub record IsControlled (c : Circuit) (p : Pipe) (y : Controls) : Type 0 where
  pub turns : HasTurns c p y.orders.now
  pub squashes : HasSquashes c y.squashes
  pub clear_count : length y.clear.now ≡ length p.stages
  pub clear : Each (IsBit c) y.clear.now
