use Rattle.pdl_machine_lockuse.proofs.InUse.{leads_sound}
use Rattle.pdl_machine_lockuse.proofs.InRuns.{stages_here, spared_here}
use Rattle.pdl_machine_lockuse.proofs.stages.Goals as goal

pub returns : goal.returns
returns c = record { leads = leads_sound; cycles = stages_here; spared = spared_here }
