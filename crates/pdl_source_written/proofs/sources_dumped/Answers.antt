use Rattle.pdl_source_written.proofs.SourceDumps.{dumpable, says}
use Rattle.pdl_source_written.proofs.sources_dumped.Goals as goal

pub returns-clause-dumpable : goal.returns-clause-dumpable
returns-clause-dumpable c = λ source p n t kept f. dumpable source p n t kept f

pub returns-clause-says : goal.returns-clause-says
returns-clause-says c = λ source p n image schedule t kept f i few. says source p n t kept f image schedule i few
