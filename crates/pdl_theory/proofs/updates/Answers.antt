-- proofs/updates/Answers.antt
use Rattle.pdl_semantics.proofs.Updates.{seq_alike}
use Rattle.pdl_theory.proofs.NotUpdated.{sound_left}
use Rattle.pdl_theory.proofs.StatedTheorems.{updates_alike}
use Rattle.pdl_theory.proofs.updates.Goals as goal

pub returns : goal.returns
returns c = record { writes = seq_alike; sound = sound_left; commits = updates_alike }
