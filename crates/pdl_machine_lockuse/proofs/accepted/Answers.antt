use Rattle.pdl_semantics.specs.Flatten.{flat}
use Rattle.pdl_machine_lockuse.proofs.accepted.Goals as goal

pub returns : goal.returns
returns c =
    λ p rules source named. c.in_use.ensures (flat p) (c.sound.ensures p rules source named)
    (c.strict.ensures p rules source) (c.careful.ensures.source p rules source)
