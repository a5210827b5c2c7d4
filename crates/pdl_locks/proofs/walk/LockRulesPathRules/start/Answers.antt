use Rattle.pdl_locks.proofs.walk.LockRulesPathRules.start.Goals as goal

pub returns : goal.returns
returns c gs xs s h = (
  c.in_ok-start_at.ensures gs xs s.1 h.0,
  c.in_ok-start_of.ensures gs xs s.2 h.1,
  c.in_ok-start_of-2.ensures gs xs s.2 h.2,
  c.in_ok-start_at-2.ensures gs xs s.1 h.3,
  c.in_ok-start_turn.ensures gs xs s.1 s.2 h.4,
  c.in_ok-start_at-3.ensures gs xs s.1 h.5,
  c.in_ok-start.ensures gs xs s.0 h.6,
)
