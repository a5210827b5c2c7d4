-- A source that is not refused breaks no rule at any place.
use Rattle.std.proofs.Common.{◌≡◌, refl, ℕ, zero, suc, false, List, [], ◌∷◌, ◌++◌, get_or, Option, Some, None, subst}
use Rattle.pdl_kit.specs.declared.rule.Rule.{Rule}
use Rattle.pdl_kit.specs.declared.rule.Rule.TheVariants.{G1, Z2, Z3, Z4, Z5, Z6, Z7, N1, N2, N3, W1, W2, W3, W4, W5, W6, F1, F2, F3, F4, F5, L1, L2, L3, L4, L5, L6, L7, L8, S1, S2, S3, S4, S5, S6, S7, P1}
use Rattle.pdl_semantics.specs.Tree.{Pipe}
use Rattle.pdl_rules.specs.Places.{Place, places, line_of}
use Rattle.pdl_rules.specs.Refusal.{breaks_rule, limits, after_limits, broken_line, refused_at, Refused, first_broken, KeepsRules}
use Rattle.pdl_rules.proofs.EachPlace.{Each, each_back}
use Rattle.pdl_semantics.proofs.Bools.{none_given}

-- where there is no refusal, this rule has no line at which it is broken, and the others have no refusal
pub no_refusal : (r : Rule) (line : Option ℕ) (others : Option Refused) → refused_at r line others ≡ None → (line ≡ None) × (others ≡ None)
no_refusal r (Some line) others e = cc
no_refusal r None others e = (refl, e)

-- a rule that has no lowest place is broken nowhere
each_unbroken : (r : Rule) (p : Pipe) (xs before : List Place)
    → broken_line r p before xs ≡ None → Each (λ front x. breaks_rule r p front x ≡ false) before xs
each_unbroken r p [] before e = tt
each_unbroken r p (x ∷ xs) before e =
    let parts = none_given (breaks_rule r p before x) (line_of x) (broken_line r p (before ++ x ∷ []) xs) e in
    (parts.0, each_unbroken r p xs (before ++ x ∷ []) parts.1)

-- no place breaks the k-th of some rules, if none of them is broken first; a number past their end stands for a rule that no tree breaks
unbroken_of : (p : Pipe) (rs : List Rule) (k : ℕ)
    → first_broken rs p ≡ None → (before : List Place) (x : Place) (later : List Place) → places p ≡ before ++ x ∷ later
    → breaks_rule (get_or rs k G1) p before x ≡ false
unbroken_of p [] k e before x later same = refl
unbroken_of p (r ∷ rs) zero e before x later same =
    let none = each_unbroken r p (places p) [] (no_refusal r (broken_line r p [] (places p)) (first_broken rs p) e).0 in
    (each_back (λ front y. breaks_rule r p front y ≡ false) before (x ∷ later) [] (subst (Each (λ front y. breaks_rule r p front y ≡ false) []) same none)).0
unbroken_of p (r ∷ rs) (suc k) e before x later same =
    unbroken_of p rs k (no_refusal r (broken_line r p [] (places p)) (first_broken rs p) e).1 before x later same

-- no place breaks the k-th of the rules of the tree, where none of them is broken first
unbroken : (p : Pipe) (k : ℕ)
    → first_broken (limits ++ after_limits) p ≡ None → (before : List Place) (x : Place) (later : List Place)
    → places p ≡ before ++ x ∷ later → breaks_rule (get_or (limits ++ after_limits) k G1) p before x ≡ false
unbroken p k e = unbroken_of p (limits ++ after_limits) k e

-- a pipe of which no rule of the tree is broken first breaks no rule at any place
pub keeps_unbroken : (p : Pipe) → first_broken (limits ++ after_limits) p ≡ None → KeepsRules p
keeps_unbroken p e Z2 = unbroken p 0 e
keeps_unbroken p e Z3 = unbroken p 1 e
keeps_unbroken p e Z4 = unbroken p 2 e
keeps_unbroken p e Z5 = unbroken p 3 e
keeps_unbroken p e Z6 = unbroken p 4 e
keeps_unbroken p e Z7 = unbroken p 5 e
keeps_unbroken p e N1 = unbroken p 6 e
keeps_unbroken p e N2 = unbroken p 7 e
keeps_unbroken p e N3 = unbroken p 8 e
keeps_unbroken p e W1 = unbroken p 9 e
keeps_unbroken p e W2 = unbroken p 10 e
keeps_unbroken p e W3 = unbroken p 11 e
keeps_unbroken p e W4 = unbroken p 12 e
keeps_unbroken p e W5 = unbroken p 13 e
keeps_unbroken p e W6 = unbroken p 14 e
keeps_unbroken p e F1 = unbroken p 15 e
keeps_unbroken p e F2 = unbroken p 16 e
keeps_unbroken p e F3 = unbroken p 17 e
keeps_unbroken p e F4 = unbroken p 18 e
keeps_unbroken p e F5 = unbroken p 19 e
keeps_unbroken p e L1 = unbroken p 20 e
keeps_unbroken p e L2 = unbroken p 21 e
keeps_unbroken p e L3 = unbroken p 22 e
keeps_unbroken p e L4 = unbroken p 23 e
keeps_unbroken p e L5 = unbroken p 24 e
keeps_unbroken p e L6 = unbroken p 25 e
keeps_unbroken p e L7 = unbroken p 26 e
keeps_unbroken p e L8 = unbroken p 27 e
keeps_unbroken p e S1 = unbroken p 28 e
keeps_unbroken p e S2 = unbroken p 29 e
keeps_unbroken p e S3 = unbroken p 30 e
keeps_unbroken p e S4 = unbroken p 31 e
keeps_unbroken p e S5 = unbroken p 32 e
keeps_unbroken p e S6 = unbroken p 33 e
keeps_unbroken p e S7 = unbroken p 34 e
keeps_unbroken p e P1 = unbroken p 35 e
keeps_unbroken p e _ = λ before x later same. refl
