use Rattle.std.proofs.Common.{◌≡◌, map, drop}
use Rattle.pdl_syntax_tree.specs.View.{mem_view}
use Rattle.pdl_paths.specs.Actions.{place_view}
use Rattle.pdl_rules_on_paths.specs.Lowest.{first_line}
use Rattle.pdl_rules_widths.specs.Advice.{breaks_advice}
use Rattle.pdl_rules_widths.proofs.advice.advice_line.Given as goal

-- no place so far does
abbrev pub invariant-loop-place : goal.invariant-loop-place
invariant-loop-place l =
    first_line (breaks_advice l.variables (map mem_view l.mems)) (map place_view (drop l.place-index l.places))
    ≡ first_line (breaks_advice l.variables (map mem_view l.mems)) (map place_view l.places)
