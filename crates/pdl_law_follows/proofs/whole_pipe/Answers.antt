use Rattle.pdl_law_follows.proofs.FromRules.{lawful_source}
use Rattle.pdl_law_follows.proofs.ShowsSource.{known_source}
use Rattle.pdl_law_follows.proofs.whole_pipe.Goals as goal

pub returns : goal.returns
returns c = record { lawful = lawful_source; known = known_source }
