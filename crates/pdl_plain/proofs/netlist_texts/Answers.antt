use Rattle.pdl_plain.proofs.BothWays.{reads_only}
use Rattle.pdl_plain.proofs.FileTexts.{reads_file}
use Rattle.pdl_plain.proofs.netlist_texts.Goals as goal

pub returns-clause-reads : goal.returns-clause-reads
returns-clause-reads c = reads_file

pub returns-clause-only : goal.returns-clause-only
returns-clause-only c = reads_only
