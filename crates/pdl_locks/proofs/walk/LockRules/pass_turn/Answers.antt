use Rattle.pdl_locks.proofs.Results.{on_ok_map}
use Rattle.pdl_locks.proofs.walk.LockRules.pass_turn.Goals as goal

pub returns : goal.returns
returns c = on_ok_map c.pass.result _ _ (λ h gs xs bits s t. h gs xs bits (s, t)) c.pass.ensures
