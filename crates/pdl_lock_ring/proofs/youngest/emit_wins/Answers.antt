use Rattle.std.proofs.Common.{arith}
use Rattle.std.proofs.lemmas.Nat.{pow_below}
use Rattle.pdl_lock_ring.proofs.youngest.emit_wins.Goals as goal

pub constant-requires-clause-fits : goal.constant-requires-clause-fits
constant-requires-clause-fits c = let h = pow_below c.args.k c.args.l.size c.requires.within in omega (arith, h, c.power.ensures)
