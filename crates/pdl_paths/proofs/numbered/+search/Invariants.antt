use Rattle.std.proofs.Common.{◌≡◌, List, map, drop}
use Rattle.pdl_rules.specs.Places.{Branch, statements}
use Rattle.pdl_syntax_tree.specs.View.{stmts_view}
use Rattle.pdl_paths.specs.declared.numbered.Found.{Found}
use Rattle.pdl_paths.specs.Masks.{mask_in, mask_of}
use Rattle.pdl_paths.specs.Numbered.{Tells}
use Rattle.pdl_paths.proofs.numbered.+search.Given as goal

-- what is found among those to come is found among all
abbrev pub invariant-search_all-loop-stmt : goal.invariant-search_all-loop-stmt
invariant-search_all-loop-stmt l = (bs : List Branch) (r : Found) → l.mask ≡ mask_of l.guards bs
    → Tells (map (mask_in l.guards) (statements bs (stmts_view (drop l.stmt-index l.stmts)))) l.left r
    → Tells (map (mask_in l.guards) (statements bs (stmts_view l.stmts))) l.number r
