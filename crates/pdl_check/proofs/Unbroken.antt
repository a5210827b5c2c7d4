-- Rules that are broken nowhere.
use Rattle.std.proofs.Common.{◌≡◌, false, List, [], ◌∷◌, ◌++◌, None, if◌then◌else◌}
use Rattle.pdl_kit.specs.declared.rule.Rule.{Rule}
use Rattle.pdl_kit.specs.declared.rule.Rule.TheVariants.{Z2, Z3, Z4, Z5, Z6, Z7, N1, N2, N3, W1, W2, W3, W4, W5, W6}
use Rattle.pdl_semantics.specs.Tree.{Pipe}
use Rattle.pdl_rules.specs.Places.{Place, places}
use Rattle.pdl_rules.specs.Refusal.{breaks_rule, limits, broken_line, first_broken}
use Rattle.pdl_rules_names.specs.Order.{name_rules}
use Rattle.pdl_rules_widths.specs.Order.{width_rules}
use Rattle.pdl_word.proofs.Bools.{none_given}
use Rattle.pdl_rules.proofs.Unbroken.{no_refusal}

-- the rules that widths rest on
pub record KeepsWidths (p : Pipe) (before xs : List Place) : Type 0 where
  pub z7 : broken_line Z7 p before xs ≡ None
  pub n2 : broken_line N2 p before xs ≡ None
  pub n3 : broken_line N3 p before xs ≡ None
  pub w2 : broken_line W2 p before xs ≡ None

first_kept : (p : Pipe) (r : Rule) (rs : List Rule)
    → first_broken (r ∷ rs) p ≡ None → (broken_line r p [] (places p) ≡ None) × (first_broken rs p ≡ None)
first_kept p r rs e = no_refusal r (broken_line r p [] (places p)) (first_broken rs p) e

-- a pipe that breaks none of the limits, nor of the rules on names and widths, keeps those that widths rest on
pub keeps_widths : (p : Pipe)
    → first_broken limits p ≡ None → first_broken name_rules p ≡ None → first_broken width_rules p ≡ None
    → KeepsWidths p [] (places p)
keeps_widths p z n w =
    let z2 = first_kept p Z2 (Z3 ∷ Z4 ∷ Z5 ∷ Z6 ∷ Z7 ∷ []) z in
    let z3 = first_kept p Z3 (Z4 ∷ Z5 ∷ Z6 ∷ Z7 ∷ []) z2.1 in
    let z4 = first_kept p Z4 (Z5 ∷ Z6 ∷ Z7 ∷ []) z3.1 in
    let z5 = first_kept p Z5 (Z6 ∷ Z7 ∷ []) z4.1 in
    let z6 = first_kept p Z6 (Z7 ∷ []) z5.1 in
    let z7 = first_kept p Z7 [] z6.1 in
    let n1 = first_kept p N1 (N2 ∷ N3 ∷ []) n in
    let n2 = first_kept p N2 (N3 ∷ []) n1.1 in
    let n3 = first_kept p N3 [] n2.1 in
    let w1 = first_kept p W1 (W2 ∷ W3 ∷ W4 ∷ W5 ∷ W6 ∷ []) w in
    let w2 = first_kept p W2 (W3 ∷ W4 ∷ W5 ∷ W6 ∷ []) w1.1 in
    record { z7 = z7.0; n2 = n2.0; n3 = n3.0; w2 = w2.0 }

-- at the first of these places, and after it
pub here : (r : Rule) (p : Pipe) (before : List Place) (x : Place) (xs : List Place)
    → broken_line r p before (x ∷ xs) ≡ None → breaks_rule r p before x ≡ false
here r p before x xs e = (none_given (breaks_rule r p before x) _ (broken_line r p (before ++ x ∷ []) xs) e).0

-- places that keep the rules that widths rest on keep them after the first of them is passed
pub after : (p : Pipe) (before : List Place) (x : Place) (xs : List Place) → KeepsWidths p before (x ∷ xs)
    → KeepsWidths p (before ++ x ∷ []) xs
after p before x xs k =
    record {
      z7 = (none_given (breaks_rule Z7 p before x) _ (broken_line Z7 p (before ++ x ∷ []) xs) k.z7).1;
      n2 = (none_given (breaks_rule N2 p before x) _ (broken_line N2 p (before ++ x ∷ []) xs) k.n2).1;
      n3 = (none_given (breaks_rule N3 p before x) _ (broken_line N3 p (before ++ x ∷ []) xs) k.n3).1;
      w2 = (none_given (breaks_rule W2 p before x) _ (broken_line W2 p (before ++ x ∷ []) xs) k.w2).1;
    }
