use Rattle.std.proofs.lemmas.Nat.{pow_below}
use Rattle.pdl_pipe_walk.proofs.tickets.one_more.Goals as goal

pub constant-requires-clause-fits : goal.constant-requires-clause-fits
constant-requires-clause-fits c = pow_below 0 c.width-width.result c.width-width.ensures.low
