-- A run, as callers see it.
use Rattle.std.specs.Prelude.{◌≡◌, ◌+◌, ◌*◌, ◌≤◌, length, vec_capacity}
use Rattle.pdl_semantics.specs.Machine.{State}
use Rattle.pdl_form.specs.Form.{Form}
use Rattle.pdl_machine_run.specs.declared.running.Run.{Run}
use Rattle.pdl_machine_run.specs.View.{seats}
use Rattle.pdl_machine_run.specs.Outside.{state_of}
use Rattle.pdl_machine_run.specs.Ready.{IsWide}
use Rattle.pdl_machine_run.specs.Running.{IsReached, IsBeside, AreReady}
use Rattle.pdl_machine_run.specs.Outputs.{output_count}

-- the state in which it is
abbrev pub state_in : Run → State
state_in r = state_of (seats r.stages.items) r.beside r.next

-- a run whose state is one that a run comes to, and that has room for a cycle
pub record IsRunning (f : Form) (r : Run) : Type 0 where
  pub ready : AreReady f r.stages.items
  pub ahead : IsWide f r.way
  pub beside : IsBeside f.pipe r.beside
  pub reached : IsReached f.pipe (state_in r)
  pub room : 2 * length r.stages.items + 8 * length r.beside.memories.items + 2 ≤ vec_capacity r.shown
  pub outputs : length r.shown.items ≡ output_count f.pipe
