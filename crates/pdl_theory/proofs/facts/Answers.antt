-- proofs/facts/Answers.antt
use Rattle.pdl_theory.proofs.SoundTests.{sounded}
use Rattle.pdl_theory.proofs.facts.Goals as goal

pub returns : goal.returns
returns c = sounded
