use Rattle.std.proofs.Common.{◌≡◌, [], map, take}
use Rattle.std.specs.Prelude.{fold}
use Rattle.pdl_syntax_tree.specs.View.{mem_view}
use Rattle.pdl_rules.specs.Widths.{after_place}
use Rattle.pdl_paths.specs.Actions.{place_view}
use Rattle.pdl_rules_widths.proofs.variables.Variables.of.Given as goal

abbrev pub invariant-loop-k : goal.invariant-loop-k
invariant-loop-k l = l.variables ≡ fold (after_place (map mem_view l.mems)) [] (take l.k (map place_view l.places))
