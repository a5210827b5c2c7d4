use Rattle.pdl_lock_any.proofs.Histories.{proper_by_state, covered_by_state, are_pending}
use Rattle.pdl_lock_any.proofs.Squashes.{drops_later}
use Rattle.pdl_lock_any.proofs.history.Goals as goal

pub returns-clause-proper : goal.returns-clause-proper
returns-clause-proper c = proper_by_state

pub returns-clause-covered : goal.returns-clause-covered
returns-clause-covered c = covered_by_state

pub returns-clause-pending : goal.returns-clause-pending
returns-clause-pending c = are_pending

pub returns-clause-squash : goal.returns-clause-squash
returns-clause-squash c = drops_later
