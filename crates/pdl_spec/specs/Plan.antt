-- The rules on calls and guesses, and the stages that check guesses.
use Rattle.std.specs.Prelude.{List, [], ◌∷◌}
use Rattle.pdl_kit.specs.declared.rule.Rule.{Rule}
use Rattle.pdl_kit.specs.declared.rule.Rule.TheVariants.{S1, S2, S3, S4, S5, S6, S7}
use Rattle.pdl_semantics.specs.Tree.{Pipe}
use Rattle.pdl_rules.specs.Speculation.{verify_stage, update_stage}
use Rattle.pdl_spec.specs.declared.plan.SpecPlan.{SpecPlan}

-- the rules on speculation, the lowest first
abbrev pub spec_rules : List Rule
spec_rules = S1 ∷ S2 ∷ S3 ∷ S4 ∷ S5 ∷ S6 ∷ S7 ∷ []

-- the stages of the verifies and of the updates
abbrev pub spec_plan : Pipe → SpecPlan
spec_plan p = record { verified = verify_stage p; updated = update_stage p }
