use Rattle.std.proofs.Common.{◌≡◌, drop}
use Rattle.pdl_form.specs.View.{stmts_view}
use Rattle.pdl_pipe_lives.specs.Needs.{rows_ask}
use Rattle.pdl_pipe_lives.proofs.needs.mark_from.Given as goal

-- none before does
abbrev pub invariant-loop-s : goal.invariant-loop-s
invariant-loop-s l = rows_ask l.stage l.mark l.mem l.var (stmts_view (drop l.s-index l.s-items)) ≡ rows_ask l.stage l.mark l.mem l.var (stmts_view l.s-items)
