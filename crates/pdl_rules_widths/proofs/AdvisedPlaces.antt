-- The rule on advised variables as it is asked is that of the language.
use Rattle.std.proofs.Common.{◌≡◌, refl, ap, ◌∙◌, List, []}
use Rattle.pdl_kit.specs.declared.rule.Rule.TheVariants.{P1}
use Rattle.pdl_semantics.specs.Tree.{CombRead, DelayedRead, Write, Reserve, Block, Release, If, Call, Verify, Update, Pipe}
use Rattle.pdl_rules.specs.Places.{Place, Statement, places}
use Rattle.pdl_rules.specs.Widths.{variables}
use Rattle.pdl_rules.specs.Advice.{breaks_p1}
use Rattle.pdl_rules.specs.Refusal.{breaks_rule, broken_line}
use Rattle.pdl_rules_on_paths.specs.Lowest.{first_line}
use Rattle.pdl_rules_on_paths.proofs.Lines.{rule_lines, first_lines}
use Rattle.pdl_rules_widths.specs.Advice.{breaks_advice}

same_advice : (p : Pipe) (x : Place) → breaks_p1 p x ≡ breaks_advice (variables p) p.mems x
same_advice p (Statement (CombRead _ _ at) _) = refl
same_advice p (Statement (DelayedRead _ _ at) _) = refl
same_advice p (Statement (Write _ at e) _) = refl
same_advice p (Statement (Reserve _ at _) _) = refl
same_advice p (Statement (Block _ at) _) = refl
same_advice p (Statement (Release _ at) _) = refl
same_advice p (Statement (If _ c _ _) _) = refl
same_advice p (Statement (Call _ args) _) = refl
same_advice p (Statement (Verify _ _ args) _) = refl
same_advice p (Statement (Update _ _ args) _) = refl
same_advice p _ = refl

-- the line of the first place that uses an advised variable where none may stand is that by which P1 refuses a pipe
pub advice_lines : (p : Pipe) (xs : List Place) → xs ≡ places p
    → first_line (breaks_advice (variables p) p.mems) xs ≡ broken_line P1 p [] (places p)
advice_lines p xs of =
    first_lines (breaks_rule P1 p) (breaks_advice (variables p) p.mems) (λ before x. same_advice p x) [] xs
    ∙ rule_lines P1 p [] xs
    ∙ ap (broken_line P1 p []) of
