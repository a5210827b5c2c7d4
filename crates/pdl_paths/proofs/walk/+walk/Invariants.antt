use Rattle.std.proofs.Common.{◌≡◌, map, drop, ◌++◌}
use Rattle.pdl_rules.specs.Places.{statements}
use Rattle.pdl_syntax_tree.specs.View.{stmts_view}
use Rattle.pdl_paths.specs.Actions.{place_view}
use Rattle.pdl_paths.specs.Guards.{branch_view}
use Rattle.pdl_paths.proofs.walk.+walk.Given as goal

-- what is there and what is to come are the whole
abbrev pub invariant-add_stmts-loop-stmt : goal.invariant-add_stmts-loop-stmt
invariant-add_stmts-loop-stmt l =
    map place_view l.places.items ++ statements (map branch_view l.outer) (stmts_view (drop l.stmt-index l.stmts))
    ≡ map place_view l.fn.places.items ++ statements (map branch_view l.outer) (stmts_view l.stmts)
