use Rattle.pdl_theory_states.proofs.LockUse.{ordered_here, older_here, reserves_here, places_here, shifts_here}
use Rattle.pdl_theory_states.proofs.pending_writes.Goals as goal

pub returns : goal.returns
returns c = record { ordered = ordered_here; older = older_here; reserves = reserves_here; places = places_here; shifts = shifts_here }
