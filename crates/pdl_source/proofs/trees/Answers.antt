use Rattle.pdl_source.proofs.Texts.{source_of, named_of}
use Rattle.pdl_source.proofs.trees.Goals as goal

pub returns-clause-source : goal.returns-clause-source
returns-clause-source c = source_of

pub returns-clause-named : goal.returns-clause-named
returns-clause-named c = named_of
