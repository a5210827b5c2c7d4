use Rattle.pdl_locks.proofs.walk.LockRules.pass_of.Goals as goal

pub returns : goal.returns
returns c = c.pass.ensures
