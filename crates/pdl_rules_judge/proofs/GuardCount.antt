-- A pipe that keeps the limits has at most ten guards.
use Rattle.std.proofs.Common.{◌≡◌, refl, sym, subst, ◌+◌, ◌≤◌, Bool, true, false, not, ◌&&◌, ◌==◌, List, [], ◌∷◌, ◌++◌, length, fold, None, if◌then◌else◌, arith}
use Rattle.std.proofs.lemmas.Bool.{eqb-false}
use Rattle.std.proofs.lemmas.List.{length-append}
use Rattle.pdl_semantics.specs.Tree.{If, Pipe}
use Rattle.pdl_kit.specs.declared.rule.Rule.TheVariants.{Z2, Z3, Z4, Z5, Z6}
use Rattle.pdl_rules.specs.Places.{Place, Statement, Guard, guard_of, is_among, with_guard, guards, places, line_of}
use Rattle.pdl_rules.specs.Limits.{breaks_z6}
use Rattle.pdl_rules.specs.Refusal.{breaks_rule, broken_line, first_broken, limits}
use Rattle.pdl_word.proofs.Bools.{none_given}
use Rattle.pdl_rules.proofs.Unbroken.{no_refusal}

within_z6 : (p : Pipe) → first_broken limits p ≡ None → broken_line Z6 p [] (places p) ≡ None
within_z6 p e =
    let a = no_refusal Z2 _ _ e in
    let b = no_refusal Z3 _ _ a.1 in
    let c = no_refusal Z4 _ _ b.1 in
    let d = no_refusal Z5 _ _ c.1 in
    (no_refusal Z6 _ _ d.1).0

-- one guard more where there are not ten
added : (g : Guard) (gs : List Guard)
    → length gs ≤ 10 → (not (is_among g gs) && (length gs == 10)) ≡ false
    → length (if is_among g gs then gs else gs ++ g ∷ []) ≤ 10
added g gs few e = go (is_among g gs) e
  where
    go : (b : Bool) → (not b && (length gs == 10)) ≡ false → length (if b then gs else gs ++ g ∷ []) ≤ 10
    go true h = few
    go false h =
        let other : (length gs ≡ 10) → ⊥ = λ t. eqb-false (length gs) 10 h t in
        let long : length (gs ++ g ∷ []) ≡ length gs + 1 = length-append gs (g ∷ []) in
        omega (arith, other, long)

next_few : (gs : List Guard) (before : List Place) (x : Place)
    → gs ≡ guards before → length gs ≤ 10 → breaks_z6 before x ≡ false → length (with_guard gs x) ≤ 10
next_few gs before (Statement (If s c a b) bs) same few e =
    added (guard_of s c) gs few (subst (λ (xs : List Guard). (not (is_among (guard_of s c) xs) && (length xs == 10)) ≡ false) (sym same) e)
next_few gs before (Statement _ bs) same few e = few
next_few gs before _ same few e = few

-- guards of some places and one more
guards_push : (xs : List Place) (x : Place) (gs : List Guard) → fold with_guard gs (xs ++ x ∷ []) ≡ with_guard (fold with_guard gs xs) x
guards_push [] x gs = refl
guards_push (y ∷ xs) x gs = guards_push xs x (with_guard gs y)

few_from : (p : Pipe) (xs before : List Place)
    → length (guards before) ≤ 10 → broken_line Z6 p before xs ≡ None → length (fold with_guard (guards before) xs) ≤ 10
few_from p [] before few e = few
few_from p (x ∷ xs) before few e =
    let both = none_given (breaks_rule Z6 p before x) (line_of x) (broken_line Z6 p (before ++ x ∷ []) xs) e in
    let one : length (with_guard (guards before) x) ≤ 10 = next_few (guards before) before x refl few both.0 in
    let push : guards (before ++ x ∷ []) ≡ with_guard (guards before) x = guards_push before x [] in
    subst (λ (gs : List Guard). length (fold with_guard gs xs) ≤ 10) push
    (few_from p xs (before ++ x ∷ []) (subst (λ (gs : List Guard). length gs ≤ 10) (sym push) one) both.1)

-- a pipe that keeps the limits has at most ten guards
pub few_guards : (p : Pipe) → first_broken limits p ≡ None → length (guards (places p)) ≤ 10
few_guards p e = few_from p (places p) [] (omega arith) (within_z6 p e)
