use Rattle.pdl_pipe_walk.proofs.RowSteps.{row_view}
use Rattle.pdl_pipe_walk.proofs.rows.row.Goals as goal

pub returns : goal.returns
returns c = row_view c.args.stmts.now c.args.i _ c.requires c.index-stmts-i.is
