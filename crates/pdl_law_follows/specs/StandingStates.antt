-- A state of the netlist of a whole pipe that stands for a state of the machine, and what is known of a cycle of the machine.
use Rattle.std.specs.Prelude.{◌≡◌, ℕ, ◌<◌, ◌≤◌, Bool, true, List, [], Some, length}
use Rattle.pdl_semantics.specs.Flat.{Pipe}
use Rattle.pdl_semantics.specs.Machine as machine
use Rattle.pdl_semantics.specs.Machine.{Thread}
use Rattle.pdl_semantics.specs.Cycle.{cycle, squasher, is_kept}
use Rattle.pdl_theory_turns.specs.Facts.{Sound}
use Rattle.pdl_machine_facts.specs.Slots.{LeadsOn, here, stage_moves, moving}
use Rattle.pdl_machine_facts.specs.Cycle.{IsByStages}
use Rattle.pdl_machine_facts.specs.Use.{IsInUse}
use Rattle.pdl_machine_lockuse.specs.Cut.{IsCut}
use Rattle.pdl_law_parts.specs.Rows.{HaveRows}
use Rattle.pdl_law_parts.specs.Advice.{IsAdvisedApart}
use Rattle.pdl_law_parts.specs.Served.{IsServed}
use Rattle.pdl_machine_inflight.specs.Readings.{Reading, reading, Reads}
use Rattle.pdl_machine_inflight.specs.InFlight.{InFlight, UpdatesTogether}

-- what the rules give of a pipe, as far as its netlist hangs on it
pub record IsLawful (p : Pipe) : Type 0 where
  pub sound : Sound p
  pub leads : LeadsOn p
  pub some : 1 ≤ length p.stages
  pub updates : UpdatesTogether p
  pub reads : Reads p
  pub rows : HaveRows p
  pub apart : IsAdvisedApart p
  pub inside : (m : ℕ) (r : Reading) → reading p m ≡ Some r → r.stage < length p.stages

-- what is known of a cycle from a state that a run comes to
pub record IsKnown (p : Pipe) (st : machine.State) (bits : List Bool) : Type 0 where
  pub by : IsByStages p st bits
  pub used : IsServed p st bits
  pub later : IsInUse p (cycle p st bits) []
  pub cut : IsCut p st bits
  pub flight : InFlight p st
  pub next : InFlight p (cycle p st bits)
  pub spared : (k : ℕ) (t : Thread) → here p st bits k ≡ Some t → stage_moves p st bits k ≡ true → is_kept (squasher (moving p st bits)) t.number ≡ true
