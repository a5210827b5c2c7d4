use Rattle.pdl_form_lower.proofs.StageWays.{next_seen}
use Rattle.pdl_form_lower.proofs.body.way_on.Goals as goal

pub returns : goal.returns
returns c = next_seen c.args.stages.now c.args.k _ c.requires
