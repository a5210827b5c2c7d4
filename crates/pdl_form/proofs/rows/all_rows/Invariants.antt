use Rattle.std.proofs.Common.{◌≡◌}
use Rattle.pdl_form.specs.View.{stmts_view}
use Rattle.pdl_form.specs.Form.{rows_below}
use Rattle.pdl_form.proofs.rows.all_rows.Given as goal

abbrev pub invariant-loop-stage : goal.invariant-loop-stage
invariant-loop-stage l = l.all.items ≡ rows_below l.stage (stmts_view l.stmts)
