use Rattle.std.proofs.Common.{◌≡◌, ◌++◌, drop}
use Rattle.pdl_form.specs.View.{stmts_view}
use Rattle.pdl_form.specs.Form.{rows_in}
use Rattle.pdl_form.proofs.stmts.rows.Given as goal

-- those so far and the rest are all
abbrev pub invariant-loop-i : goal.invariant-loop-i
invariant-loop-i l = l.rows.items ++ rows_in l.stage l.i (stmts_view (drop l.i l.stmts)) ≡ rows_in l.stage 0 (stmts_view l.stmts)
