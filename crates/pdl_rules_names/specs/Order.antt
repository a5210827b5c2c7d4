-- The rules on names, in their order.
use Rattle.std.specs.Prelude.{List, [], ◌∷◌}
use Rattle.pdl_kit.specs.declared.rule.Rule.{Rule}
use Rattle.pdl_kit.specs.declared.rule.Rule.TheVariants.{N1, N2, N3}

-- the rules on names, the lowest first
abbrev pub name_rules : List Rule
name_rules = N1 ∷ N2 ∷ N3 ∷ []
