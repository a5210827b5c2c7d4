use Rattle.pdl_form_lower.proofs.StageWays.{marked_one}
use Rattle.pdl_form_lower.proofs.walk.mark.Goals as goal

pub returns-clause-stages : goal.returns-clause-stages
returns-clause-stages c = marked_one c.args.stages.now.items c.args.k c.index-stage.result.now c.args.fork c.requires c.index-stage.ensures
