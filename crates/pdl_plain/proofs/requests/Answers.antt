use Rattle.pdl_plain.proofs.RequestCases.{leaves}
use Rattle.pdl_plain.proofs.requests.Goals as goal

pub returns : goal.returns
returns c = record { leaves = leaves }
