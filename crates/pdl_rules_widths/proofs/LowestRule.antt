-- The lowest rule of some lines.
use Rattle.std.proofs.Common.{◌≡◌, refl, ap₂, ◌∙◌, [], None}
use Rattle.pdl_kit.specs.declared.rule.Rule.TheVariants.{W1, W2, W3, W4, W5, W6}
use Rattle.pdl_semantics.specs.Tree.{Pipe}
use Rattle.pdl_rules.specs.Places.{places}
use Rattle.pdl_rules.specs.Refusal.{refused_at, first_broken}
use Rattle.pdl_rules_on_paths.proofs.Lines.{rule_lines}
use Rattle.pdl_rules_widths.specs.Lines.{AreLines}
use Rattle.pdl_rules_widths.specs.declared.lines.WidthLines.{WidthLines}
use Rattle.pdl_rules_widths.specs.Order.{width_rules}

-- the lowest of W1 to W6 that has a line is the first broken rule on widths, at its lowest place
pub lowest_line : (p : Pipe) (ls : WidthLines) → AreLines p (places p) ls
    → refused_at W1 ls.w1 (refused_at W2 ls.w2 (refused_at W3 ls.w3 (refused_at W4 ls.w4 (refused_at W5 ls.w5 (refused_at W6 ls.w6 None)))))
    ≡ first_broken width_rules p
lowest_line p ls h =
    ap₂ (λ a b. refused_at W1 a b) (h.w1 ∙ rule_lines W1 p [] (places p))
    (ap₂ (λ a b. refused_at W2 a b) (h.w2 ∙ rule_lines W2 p [] (places p))
    (ap₂ (λ a b. refused_at W3 a b) (h.w3 ∙ rule_lines W3 p [] (places p))
    (ap₂ (λ a b. refused_at W4 a b) (h.w4 ∙ rule_lines W4 p [] (places p))
    (ap₂ (λ a b. refused_at W5 a b) (h.w5 ∙ rule_lines W5 p [] (places p))
    (ap₂ (λ a b. refused_at W6 a b) (h.w6 ∙ rule_lines W6 p [] (places p)) refl)))))
