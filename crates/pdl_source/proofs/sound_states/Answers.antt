use Rattle.pdl_semantics.specs.Flatten.{flat}
use Rattle.pdl_source.proofs.sound_states.Goals as goal

pub returns : goal.returns
returns c = λ text p t rules. c.sound_state.ensures (flat p) (c.facts.ensures.sound text p t rules) (c.facts.ensures.strict text p t rules)
