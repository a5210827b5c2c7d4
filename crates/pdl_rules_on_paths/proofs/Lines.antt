-- The line of the lowest place.
use Rattle.std.proofs.Common.{◌≡◌, refl, sym, ap, ◌∙◌, subst, ℕ, zero, suc, ◌+◌, ◌<◌, Bool, true, false, List, [], ◌∷◌, ◌++◌, map, take, drop, length, get_or, slice_get, Option, Some, None, if◌then◌else◌, arith, append_assoc, append-nil, option_map, ◌⊎◌, inl, inr}
use Rattle.std.proofs.Math.Nat.{eq-or-lt_of_le}
use Rattle.pdl_kit.specs.declared.rule.Rule.{Rule}
use Rattle.pdl_semantics.specs.Tree.{Pipe}
use Rattle.pdl_rules.specs.Places.{Place, line_of}
use Rattle.pdl_rules.specs.Parts.{is_some_and}
use Rattle.pdl_rules.specs.Refusal.{breaks_rule, broken_line}
use Rattle.pdl_rules_on_paths.specs.Lowest.{line_where, first_line, breaks_at, nth_line, IsLowest}
use Rattle.pdl_rules_on_paths.proofs.Nth.{past_last}
use Rattle.pdl_semantics.proofs.Lists.{drop_next}

-- the lines of a rule of the definitions
pub rule_lines : (r : Rule) (p : Pipe) (before xs : List Place) → line_where (breaks_rule r p) before xs ≡ broken_line r p before xs
rule_lines r p before [] = refl
rule_lines r p before (x ∷ xs) = ap (λ later. if breaks_rule r p before x then Some (line_of x) else later) (rule_lines r p (before ++ x ∷ []) xs)

-- two tests that agree at every place have the same first line
pub same_lines : (f g : List Place → Place → Bool)
    → ((before : List Place) (x : Place) → f before x ≡ g before x) → (before xs : List Place)
    → line_where f before xs ≡ line_where g before xs
same_lines f g same before [] = refl
same_lines f g same before (x ∷ xs) =
    ap (λ b. if b then Some (line_of x) else line_where f (before ++ x ∷ []) xs) (same before x)
    ∙ ap (λ later. if g before x then Some (line_of x) else later) (same_lines f g same (before ++ x ∷ []) xs)

-- a rule that asks nothing of the places before has the line of the first place that breaks it
pub first_lines : (f : List Place → Place → Bool) (test : Place → Bool)
    → ((before : List Place) (x : Place) → f before x ≡ test x) → (before xs : List Place)
    → first_line test xs ≡ line_where f before xs
first_lines f test same before [] = refl
first_lines f test same before (x ∷ xs) =
    ap (λ b. if b then Some (line_of x) else first_line test xs) (sym (same before x))
    ∙ ap (λ later. if f before x then Some (line_of x) else later) (first_lines f test same (before ++ x ∷ []) xs)

-- where the k-th place passes a test, and none before it does, its line is the first
pub first_found : {A : Type 0} (test : Place → Bool) (view : A → Place) (xs : List A) (k : ℕ) (x : A) (whole : Option ℕ)
    → k < length xs → x ≡ get_or xs k x → test (view x) ≡ true → first_line test (map view (drop k xs)) ≡ whole
    → Some (line_of (view x)) ≡ whole
first_found test view xs k x whole h e is inv =
    sym (ap (λ b. if b then Some (line_of (view x)) else first_line test (map view (drop (k + 1) xs))) is)
    ∙ sym (ap (λ ys. first_line test (map view ys)) (drop_next xs k x h e))
    ∙ inv

-- where the k-th place fails a test, the first line from it on is that after it
pub first_passed : {A : Type 0} (test : Place → Bool) (view : A → Place) (xs : List A) (k : ℕ) (x : A) (whole : Option ℕ)
    → k < length xs → x ≡ get_or xs k x → test (view x) ≡ false → first_line test (map view (drop k xs)) ≡ whole
    → first_line test (map view (drop (k + 1) xs)) ≡ whole
first_passed test view xs k x whole h e is inv =
    sym (ap (λ b. if b then Some (line_of (view x)) else first_line test (map view (drop (k + 1) xs))) is)
    ∙ sym (ap (λ ys. first_line test (map view ys)) (drop_next xs k x h e))
    ∙ inv

-- places after others
abbrev at_from : (List Place → Place → Bool) → List Place → List Place → ℕ → Bool
at_from test before xs j = is_some_and (test (before ++ take j xs)) (slice_get xs j)

moved : (test : List Place → Place → Bool) (before xs : List Place) (x : Place) (j : ℕ)
    → at_from test before (x ∷ xs) (suc j) ≡ at_from test (before ++ x ∷ []) xs j
moved test before xs x j = ap (λ b. is_some_and (test b) (slice_get xs j)) (sym (append_assoc before (x ∷ []) (take j xs)))

first_fails : (test : List Place → Place → Bool) (before xs : List Place) (x : Place) → at_from test before (x ∷ xs) 0 ≡ false
    → line_where test before (x ∷ xs) ≡ line_where test (before ++ x ∷ []) xs
first_fails test before xs x e =
    ap (λ b. if b then Some (line_of x) else line_where test (before ++ x ∷ []) xs) (sym (ap (λ b. test b x) (append-nil before)) ∙ e)

line_some : (test : List Place → Place → Bool) (before xs : List Place) (k : ℕ)
    → k < length xs → at_from test before xs k ≡ true → ((j : ℕ) → j < k → at_from test before xs j ≡ false)
    → line_where test before xs ≡ nth_line xs k
line_some test before [] k l e others = absurd (omega arith)
line_some test before (x ∷ xs) zero l e others =
    ap (λ b. if b then Some (line_of x) else line_where test (before ++ x ∷ []) xs) (sym (ap (λ b. test b x) (append-nil before)) ∙ e)
line_some test before (x ∷ xs) (suc k) l e others =
    first_fails test before xs x (others 0 (omega arith))
    ∙ line_some test (before ++ x ∷ []) xs k (omega arith) (sym (moved test before xs x k) ∙ e)
    (λ j m. sym (moved test before xs x j) ∙ others (suc j) (omega arith))

line_none : (test : List Place → Place → Bool) (before xs : List Place)
    → ((j : ℕ) → j < length xs → at_from test before xs j ≡ false) → line_where test before xs ≡ None
line_none test before [] others = refl
line_none test before (x ∷ xs) others =
    first_fails test before xs x (others 0 (omega arith))
    ∙ line_none test (before ++ x ∷ []) xs (λ j m. sym (moved test before xs x j) ∙ others (suc j) (omega arith))

-- the line of the lowest place that passes a test is that of the first one that does in text order
pub lowest_line : (test : List Place → Place → Bool) (xs : List Place) (k : ℕ)
    → IsLowest (breaks_at test xs) (length xs) k → nth_line xs k ≡ line_where test [] xs
lowest_line test xs k h = at (eq-or-lt_of_le h.within)
  where
    at : (k ≡ length xs) ⊎ (k < length xs) → nth_line xs k ≡ line_where test [] xs
    at (inr l) = sym (line_some test [] xs k l (h.found l) h.others)
    at (inl e) = ap (λ o. option_map line_of o) (past_last xs k e) ∙ sym (line_none test [] xs (λ j m. h.others j (subst (λ n. j < n) (sym e) m)))
