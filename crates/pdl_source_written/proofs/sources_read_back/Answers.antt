use Rattle.pdl_source_written.proofs.Sources.{names, reads}
use Rattle.pdl_source_written.proofs.sources_read_back.Goals as goal

pub returns-clause-names : goal.returns-clause-names
returns-clause-names c = names

pub returns-clause-reads : goal.returns-clause-reads
returns-clause-reads c = reads
