use Rattle.pdl_locks.proofs.Results.{ok_map}
use Rattle.pdl_locks.proofs.walk.LockRules.start_turn.Goals as goal

pub returns : goal.returns
returns c = ok_map c.start.result _ _ (λ course h gs xs s t. h gs xs (s, t)) c.start.ensures
