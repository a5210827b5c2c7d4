use Rattle.std.specs.Prelude.{slice_index}
use Rattle.pdl_form.specs.View.{next_view}
use Rattle.pdl_machine_inflight.specs.Readings.{places_of}
use Rattle.pdl_port.specs.Laws.{signal_at}
use Rattle.pdl_pipe_beside.specs.Steps.{AreNetsOf}
use Rattle.pdl_pipe_beside.proofs.free.place_moves.Given as goal

-- the nets of the first places
abbrev pub invariant-loop-i : goal.invariant-loop-i
invariant-loop-i l = AreNetsOf l.b l.nets l.i (λ i. signal_at l.b l.moves (slice_index (places_of (next_view l.next)) i))
