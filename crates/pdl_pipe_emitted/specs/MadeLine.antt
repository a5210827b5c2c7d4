-- A line of stages in a finished circuit.
use Rattle.std.specs.Prelude.{◌≡◌, ℕ, ◌<◌, ◌≤◌, true, false, List, length}
use Rattle.pdl_semantics.specs.Flat.{Pipe}
use Rattle.pdl_semantics.specs.Stages.{stage_at}
use Rattle.pdl_machine_facts.specs.Slots.{leads_to}
use Rattle.pdl_net.specs.Circuit.{Circuit}
use Rattle.pdl_net.specs.Signal.{Signal}
use Rattle.pdl_net.specs.Growth.{Keeps}
use Rattle.pdl_net.specs.Well.{IsWell}
use Rattle.pdl_pipe_exprs.specs.Nets.{signal_at}
use Rattle.pdl_port.specs.Laws.{AnswerSignals}
use Rattle.pdl_law_parts.specs.Walk.{Locks, is_locked}
use Rattle.pdl_pipe_registers.specs.declared.nets.StageNets.{StageNets}
use Rattle.pdl_pipe_registers.specs.Stages.{IsAt}
use Rattle.pdl_pipe_registers.specs.Staged.{AreStaged}
use Rattle.pdl_pipe_nexts.specs.declared.line.StageLine.{StageLine}
use Rattle.pdl_pipe_nexts.specs.Lines.{line_form, IsLineIn}
use Rattle.pdl_pipe_nexts.specs.Nexts.{TakesNext}

-- threads begin in stage 0, to which no stage leads, with a value for each parameter
pub record BeginsFirst (p : Pipe) : Type 0 where
  pub some : 0 < length p.stages
  pub params : length p.start ≤ p.vars
  pub first : (j : ℕ) → j < length p.stages → leads_to (stage_at p j).next 0 ≡ false

-- these are the next tickets of the locks, each with the bits of its lock's tickets
abbrev pub AreNextTickets : Pipe → Locks → List Signal → Type 0
AreNextTickets p ls nexts = (m : ℕ) → is_locked p m ≡ true → (m < length p.mems) × (signal_at nexts m ≡ ls.ticket m) × ((ls.ticket m).width ≡ ls.bits m)

-- the stages of a line, as they were made in circuit a; in the later circuit d their registers take next what the nets of circuit c say
pub record IsLineMade (a c d : Circuit) (x : StageLine) (nexts : List Signal) (answers : ℕ → ℕ → AnswerSignals) (ls : Locks) : Type 0 where
  pub staged : AreStaged a (line_form x) nexts answers ls x.stages.now
  pub before : Keeps a c
  pub line : IsLineIn c x
  pub after : Keeps c d
  pub well : IsWell d
  pub takes : (k : ℕ) (s : StageNets) → k < length x.stages.now → IsAt x.stages.now k s → TakesNext c d x k s
