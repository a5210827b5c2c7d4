-- The lines of the places that are over a limit first.
use Rattle.std.specs.Prelude.{◌≡◌, List, []}
use Rattle.pdl_kit.specs.declared.rule.Rule.TheVariants as rules
use Rattle.pdl_semantics.specs.Tree.{Pipe}
use Rattle.pdl_rules.specs.Places.{Place}
use Rattle.pdl_rules.specs.Refusal.{breaks_rule}
use Rattle.pdl_rules_on_paths.specs.Lowest.{line_where}
use Rattle.pdl_rules_judge.specs.declared.limit_lines.Lines.{Lines}

-- of each limit, the line of the first of these places that is over it; the limits of places are the same in each pipe
pub record AreLines (p : Pipe) (xs : List Place) (lines : Lines) : Type 0 where
  pub z2 : lines.z2 ≡ line_where (breaks_rule rules.Z2 p) [] xs
  pub z3 : lines.z3 ≡ line_where (breaks_rule rules.Z3 p) [] xs
  pub z4 : lines.z4 ≡ line_where (breaks_rule rules.Z4 p) [] xs
  pub z5 : lines.z5 ≡ line_where (breaks_rule rules.Z5 p) [] xs
  pub z6 : lines.z6 ≡ line_where (breaks_rule rules.Z6 p) [] xs
  pub z7 : lines.z7 ≡ line_where (breaks_rule rules.Z7 p) [] xs
