use Rattle.pdl_locks.proofs.walk.LockRules.start_of.Goals as goal

pub returns : goal.returns
returns c = c.start.ensures
