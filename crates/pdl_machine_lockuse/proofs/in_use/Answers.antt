use Rattle.pdl_machine_lockuse.proofs.InRuns.{in_use_here}
use Rattle.pdl_machine_lockuse.proofs.in_use.Goals as goal

pub returns : goal.returns
returns c = λ p sound strict careful image before bits. in_use_here p sound strict image before bits careful
