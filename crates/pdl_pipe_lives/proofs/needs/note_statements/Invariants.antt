use Rattle.std.proofs.Common.{drop}
use Rattle.pdl_form.specs.View.{stmts_view}
use Rattle.pdl_pipe_lives.specs.Needs.{rows_use, AreNotedBut}
use Rattle.pdl_pipe_lives.proofs.needs.note_statements.Given as goal

-- what is left is what the statements from here on use
abbrev pub invariant-loop-s : goal.invariant-loop-s
invariant-loop-s l =
    AreNotedBut l.fn.last l.last (λ k x. rows_use k x (stmts_view (drop l.s-index l.stmts))) (λ k x. rows_use k x (stmts_view l.stmts))
