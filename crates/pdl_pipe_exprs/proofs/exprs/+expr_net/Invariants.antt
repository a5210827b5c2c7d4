use Rattle.pdl_pipe_exprs.proofs.exprs.+expr_net.Given as goal

abbrev pub decreases-expr_net : goal.decreases-expr_net
decreases-expr_net l = goal.size-expr_net l
