use Rattle.pdl_source_strict.proofs.Paths.{paths_strict}
use Rattle.pdl_source_strict.proofs.strict.Goals as goal

pub returns : goal.returns
returns c = paths_strict
