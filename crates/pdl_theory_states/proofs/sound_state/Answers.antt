use Rattle.pdl_theory_states.proofs.EveryState
use Rattle.pdl_theory_states.proofs.sound_state.Goals as goal

pub returns : goal.returns
returns c = EveryState.sound_state
