use Rattle.pdl_machine_facts.proofs.Stagewise.{by_stages}
use Rattle.pdl_machine_facts.proofs.stages.Goals as goal

pub returns : goal.returns
returns c = by_stages
