use Rattle.pdl_pipe_exprs.proofs.NetLists.{means_at}
use Rattle.pdl_pipe_exprs.proofs.exprs.variable.Goals as goal

pub returns : goal.returns
returns c = means_at c.args.b.now c.args.vars.now c.args.x _ c.requires.low c.requires.there
