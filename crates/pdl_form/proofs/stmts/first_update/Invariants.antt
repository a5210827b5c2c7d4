use Rattle.std.proofs.Common.{◌≡◌, drop}
use Rattle.pdl_semantics.specs.Updates as updates
use Rattle.pdl_form.specs.View.{stmts_view}
use Rattle.pdl_form.proofs.stmts.first_update.Given as goal

-- none before is one
abbrev pub invariant-loop-stmt : goal.invariant-loop-stmt
invariant-loop-stmt l = updates.first_update (stmts_view (drop l.stmt-index l.stmts)) ≡ updates.first_update (stmts_view l.stmts)
