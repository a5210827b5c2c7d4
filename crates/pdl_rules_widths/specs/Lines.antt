-- The lines of the places that break a rule first.
use Rattle.std.specs.Prelude.{◌≡◌, List, []}
use Rattle.pdl_kit.specs.declared.rule.Rule.TheVariants as rules
use Rattle.pdl_semantics.specs.Tree.{Pipe}
use Rattle.pdl_rules.specs.Places.{Place}
use Rattle.pdl_rules.specs.Refusal.{breaks_rule}
use Rattle.pdl_rules_on_paths.specs.Lowest.{line_where}
use Rattle.pdl_rules_widths.specs.declared.lines.WidthLines.{WidthLines}

-- of each rule on widths, the line of the first of these places of a pipe that breaks it
pub record AreLines (p : Pipe) (xs : List Place) (lines : WidthLines) : Type 0 where
  pub w1 : lines.w1 ≡ line_where (breaks_rule rules.W1 p) [] xs
  pub w2 : lines.w2 ≡ line_where (breaks_rule rules.W2 p) [] xs
  pub w3 : lines.w3 ≡ line_where (breaks_rule rules.W3 p) [] xs
  pub w4 : lines.w4 ≡ line_where (breaks_rule rules.W4 p) [] xs
  pub w5 : lines.w5 ≡ line_where (breaks_rule rules.W5 p) [] xs
  pub w6 : lines.w6 ≡ line_where (breaks_rule rules.W6 p) [] xs
