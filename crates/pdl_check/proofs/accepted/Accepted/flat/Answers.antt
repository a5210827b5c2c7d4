use Rattle.pdl_form_types.proofs.SameForms.{same_forms}
use Rattle.pdl_check.proofs.accepted.Accepted.flat.Goals as goal

pub returns : goal.returns
returns c = same_forms _ _ c.args.self.now.lowered
