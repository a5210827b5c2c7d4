use Rattle.pdl_source.proofs.facts.Goals as goal

pub returns-clause-sound : goal.returns-clause-sound
returns-clause-sound c = λ text p t rules. c.sound.ensures p rules (c.trees.ensures.source text p t) (c.trees.ensures.named text p t)
