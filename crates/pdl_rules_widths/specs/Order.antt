-- The rules on widths, in their order.
use Rattle.std.specs.Prelude.{List, [], ◌∷◌}
use Rattle.pdl_kit.specs.declared.rule.Rule.{Rule}
use Rattle.pdl_kit.specs.declared.rule.Rule.TheVariants.{W1, W2, W3, W4, W5, W6}

-- the rules on widths, the lowest first
abbrev pub width_rules : List Rule
width_rules = W1 ∷ W2 ∷ W3 ∷ W4 ∷ W5 ∷ W6 ∷ []
