use Rattle.pdl_source_stages.proofs.Facts
use Rattle.pdl_source_stages.proofs.stage_facts.Goals as goal

pub returns : goal.returns
returns c = Facts.stage_facts
