use Rattle.pdl_source_paths.proofs.PipeFacts.{of_source}
use Rattle.pdl_source_paths.proofs.sound.Goals as goal

pub returns : goal.returns
returns c = of_source
