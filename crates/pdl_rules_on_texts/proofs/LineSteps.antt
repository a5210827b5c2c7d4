-- The line of the first place that breaks a rule, with one place more.
use Rattle.std.proofs.Common.{◌≡◌, refl, sym, ap, ap₂, ◌∙◌, ℕ, ◌+◌, Bool, true, false, List, [], ◌∷◌, ◌++◌, take, slice_get, Option, Some, None, if◌then◌else◌, append_assoc, append-nil}
use Rattle.pdl_rules.specs.Places.{Place, line_of}
use Rattle.pdl_rules.specs.Parts.{is_some_and}
use Rattle.pdl_rules_on_paths.specs.Lowest.{line_where, breaks_at}
use Rattle.pdl_rules_on_texts.specs.NotedLine.{noted_line}
use Rattle.pdl_rules_on_paths.proofs.Nth.{take_next}

line_more : (test : List Place → Place → Bool) (before xs : List Place) (y : Place)
    → line_where test before (xs ++ y ∷ []) ≡ noted_line (line_where test before xs) (test (before ++ xs) y) (line_of y)
line_more test before [] y = ap (λ b. if test b y then Some (line_of y) else None) (sym (append-nil before))
line_more test before (x ∷ xs) y = at (test before x) (line_more test (before ++ x ∷ []) xs y)
  where
    at : (b : Bool)
        → line_where test (before ++ x ∷ []) (xs ++ y ∷ []) ≡ noted_line (line_where test (before ++ x ∷ []) xs) (test ((before ++ x ∷ []) ++ xs) y) (line_of y)
        → (if b then Some (line_of x) else line_where test (before ++ x ∷ []) (xs ++ y ∷ []))
        ≡ noted_line (if b then Some (line_of x) else line_where test (before ++ x ∷ []) xs) (test (before ++ x ∷ xs) y) (line_of y)
    at true e = refl
    at false e =
        e
        ∙ ap (λ b. noted_line (line_where test (before ++ x ∷ []) xs) (test b y) (line_of y)) (append_assoc before (x ∷ []) xs)

-- with one place more, the line that is noted is the first one where the test passes
pub line_next : (test : List Place → Place → Bool) (xs : List Place) (k : ℕ) (y : Place) (first new : Option ℕ) (b : Bool) (line : ℕ)
    → slice_get xs k ≡ Some y → b ≡ test (take k xs) y → line ≡ line_of y → new ≡ noted_line first b line
    → first ≡ line_where test [] (take k xs) → new ≡ line_where test [] (take (k + 1) xs)
line_next test xs k y first new b line got e l made h =
    made
    ∙ ap (λ f. noted_line f b line) h
    ∙ ap₂ (λ c m. noted_line (line_where test [] (take k xs)) c m) e l
    ∙ sym (line_more test [] (take k xs) y)
    ∙ ap (line_where test []) (take_next xs k y got)

-- the k-th place breaks the rule just where the test passes of it and the places before it
pub breaks_kth : (test : List Place → Place → Bool) (xs : List Place) (k : ℕ) (y : Place) (b : Bool)
    → slice_get xs k ≡ Some y → b ≡ test (take k xs) y → b ≡ breaks_at test xs k
breaks_kth test xs k y b got e = e ∙ sym (ap (is_some_and (test (take k xs))) got)
