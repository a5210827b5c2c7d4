use Rattle.pdl_form.specs.FormView.{form}
use Rattle.pdl_net.specs.Growth.{Extends}
use Rattle.pdl_law_sides.specs.Sides.{asked_into}
use Rattle.pdl_machine_inflight.specs.Readings.{place_at}
use Rattle.pdl_pipe_answers.specs.Readings.{reading_view}
use Rattle.pdl_pipe_beside.specs.Ends.{ends_in, moves_in, kills_in}
use Rattle.pdl_pipe_beside.specs.Steps.{AreNetsOf}
use Rattle.pdl_pipe_beside.proofs.port_round.step_nets.Given as goal

-- the first places have their nets
abbrev pub invariant-loop-i : goal.invariant-loop-i
invariant-loop-i l = record {
  asked : AreNetsOf l.b l.asked l.i
      (asked_into (form l.round.pipe.now).pipe (ends_in l.fn.b l.round.ends.now) (moves_in l.fn.b l.round.ends.now) l.m (reading_view l.r));
  moves : AreNetsOf l.b l.moves l.i (λ j. moves_in l.fn.b l.round.ends.now (place_at (form l.round.pipe.now).pipe (reading_view l.r) j));
  removed : AreNetsOf l.b l.removed l.i (λ j. kills_in l.fn.b l.round.ends.now (place_at (form l.round.pipe.now).pipe (reading_view l.r) j));
  extends : Extends l.initial.b l.b;
}
