use Rattle.std.proofs.Common.{◌≡◌, drop}
use Rattle.pdl_semantics.specs.Stages.{list_any}
use Rattle.pdl_form.specs.View.{guards_view, stmts_view}
use Rattle.pdl_semantics.specs.SecondWrites.{reserves_too}
use Rattle.pdl_form_values.proofs.twice.one_reserves_too.Given as goal

-- the statements left decide
abbrev pub invariant-loop-stmt : goal.invariant-loop-stmt
invariant-loop-stmt l =
    list_any (reserves_too l.m (guards_view l.guards)) (stmts_view (drop l.stmt-index l.stmts))
    ≡ list_any (reserves_too l.m (guards_view l.guards)) (stmts_view l.stmts)
