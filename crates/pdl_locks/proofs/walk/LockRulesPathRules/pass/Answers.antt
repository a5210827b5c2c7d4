use Rattle.pdl_locks.proofs.walk.LockRulesPathRules.pass.Goals as goal

pub returns : goal.returns
returns c gs xs bits s got on h = (
  c.in_ok-pass_at.ensures gs xs bits s.1 got on h.0,
  c.in_ok-pass_of.ensures gs xs bits s.2 got on h.1,
  c.in_ok-pass_of-2.ensures gs xs bits s.2 got on h.2,
  c.in_ok-pass_at-2.ensures gs xs bits s.1 got on h.3,
  c.in_ok-pass_turn.ensures gs xs bits s.1 s.2 got on h.4,
  c.in_ok-pass_at-3.ensures gs xs bits s.1 got on h.5,
  c.in_ok-pass.ensures gs xs bits s.0 got on h.6,
)
