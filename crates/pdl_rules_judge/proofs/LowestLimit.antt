-- The lowest rule of some lines.
use Rattle.std.proofs.Common.{◌≡◌, refl, ap₂, ◌∙◌, [], None}
use Rattle.pdl_kit.specs.declared.rule.Rule.TheVariants.{Z2, Z3, Z4, Z5, Z6, Z7}
use Rattle.pdl_semantics.specs.Tree.{Pipe}
use Rattle.pdl_rules.specs.Places.{places}
use Rattle.pdl_rules.specs.Refusal.{refused_at, first_broken, limits}
use Rattle.pdl_rules_on_paths.proofs.Lines.{rule_lines}
use Rattle.pdl_rules_judge.specs.LimitLines.{AreLines}
use Rattle.pdl_rules_judge.specs.declared.limit_lines.Lines.{Lines}

-- the lowest of Z2 to Z7 that has a line is the first broken limit, at its lowest place
pub lowest_line : (p : Pipe) (ls : Lines) → AreLines p (places p) ls
    → refused_at Z2 ls.z2 (refused_at Z3 ls.z3 (refused_at Z4 ls.z4 (refused_at Z5 ls.z5 (refused_at Z6 ls.z6 (refused_at Z7 ls.z7 None)))))
    ≡ first_broken limits p
lowest_line p ls h =
    ap₂ (λ a b. refused_at Z2 a b) (h.z2 ∙ rule_lines Z2 p [] (places p))
    (ap₂ (λ a b. refused_at Z3 a b) (h.z3 ∙ rule_lines Z3 p [] (places p))
    (ap₂ (λ a b. refused_at Z4 a b) (h.z4 ∙ rule_lines Z4 p [] (places p))
    (ap₂ (λ a b. refused_at Z5 a b) (h.z5 ∙ rule_lines Z5 p [] (places p))
    (ap₂ (λ a b. refused_at Z6 a b) (h.z6 ∙ rule_lines Z6 p [] (places p))
    (ap₂ (λ a b. refused_at Z7 a b) (h.z7 ∙ rule_lines Z7 p [] (places p)) refl)))))
