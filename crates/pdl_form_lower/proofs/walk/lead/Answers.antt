use Rattle.pdl_form_lower.proofs.StageWays.{led}
use Rattle.pdl_form_lower.proofs.walk.lead.Goals as goal

pub returns-clause-stages : goal.returns-clause-stages
returns-clause-stages c = led c.args.stages.now.items c.args.k c.index-stage.result.now c.args.next c.requires c.index-stage.ensures
