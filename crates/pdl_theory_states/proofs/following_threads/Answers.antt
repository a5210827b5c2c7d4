use Rattle.pdl_theory_states.proofs.EveryState.{values, entries, arrays, looks}
use Rattle.pdl_theory_states.proofs.following_threads.Goals as goal

pub returns : goal.returns
returns c = record { values = values; pending = entries; arrays = arrays; looks = looks }
