use Rattle.std.proofs.Common.{◌≡◌, drop}
use Rattle.pdl_form.specs.View.{stmts_view}
use Rattle.pdl_semantics.specs.SecondWrites as writes
use Rattle.pdl_form_values.proofs.twice.reserves_twice.Given as goal

-- the statements left decide
abbrev pub invariant-loop-k : goal.invariant-loop-k
invariant-loop-k l = writes.reserves_twice l.m (stmts_view (drop l.k l.stmts)) ≡ writes.reserves_twice l.m (stmts_view l.stmts)
