use Rattle.std.proofs.Common.{◌≡◌, ℕ, drop}
use Rattle.std.specs.Prelude.{◌||◌}
use Rattle.pdl_form.specs.View.{stmts_view}
use Rattle.pdl_pipe_lives.specs.Needs.{rows_verify, lasts}
use Rattle.pdl_pipe_lives.proofs.needs.last_verify.Given as goal

-- the last one so far, or one of those from here on
abbrev pub invariant-loop-s : goal.invariant-loop-s
invariant-loop-s l = (k : ℕ) → (lasts k l.last || rows_verify k (stmts_view (drop l.s-index l.stmts))) ≡ rows_verify k (stmts_view l.stmts)
