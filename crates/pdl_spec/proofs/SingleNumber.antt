-- The only one of some numbers.
use Rattle.std.proofs.Common.{◌≡◌, refl, sym, ap, ap₂, ◌∙◌, ℕ, zero, suc, ◌+◌, ◌≤◌, Bool, true, false, nat_lt, List, [], ◌∷◌, ◌++◌, take, drop, length, slice_get, arith, if◌then◌else◌, append-nil, Option, Some, None}
use Rattle.pdl_rules.specs.Places.{Place}
use Rattle.pdl_rules.specs.Parts.{is_some_and}
use Rattle.pdl_rules.specs.Stages.{stages_that, stage_of}
use Rattle.pdl_rules.specs.Speculation.{is_once_after}
use Rattle.pdl_rules_stages.proofs.Nth.{split, taken}
use Rattle.pdl_rules_stages.proofs.PlaceStages.{that_append, that_more}
use Rattle.pdl_spec.specs.Verified.{only}

-- a number that may be there as a list
abbrev pub as_list : Option ℕ → List ℕ
as_list None = []
as_list (Some n) = n ∷ []

-- the only one of such a list is the number that may be there
pub only_one : (o : Option ℕ) → o ≡ only (as_list o)
only_one None = refl
only_one (Some n) = refl

-- some stages are one stage after s exactly where there is an only one of them, and it comes after s
pub once_after : (s : ℕ) (ns : List ℕ) → is_some_and (λ v. nat_lt s v) (only ns) ≡ is_once_after s ns
once_after s [] = refl
once_after s (n ∷ []) = refl
once_after s (n ∷ m ∷ ms) = refl

-- the k-th is a second one, the first one, or none
pub second : (test : Place → Bool) (xs : List Place) (k : ℕ) (x : Place) (n : ℕ)
    → slice_get xs k ≡ Some x → test x ≡ true → stages_that test [] (take k xs) ≡ as_list (Some n)
    → None ≡ only (stages_that test [] xs)
second test xs k x n got e h =
    sym (ap (λ ys. only (stages_that test [] ys)) (split xs k x got)
    ∙ ap only (that_append test [] (take k xs) (x ∷ drop (k + 1) xs))
    ∙ ap₂
    (λ ns b. only
    (ns
    ++ (if b then stage_of (take k xs) x ∷ stages_that test (take k xs ++ x ∷ []) (drop (k + 1) xs)
    else stages_that test (take k xs ++ x ∷ []) (drop (k + 1) xs)))) h e)

-- the stage of the first place that passes a test is the only one up to that place
pub first : (test : Place → Bool) (xs : List Place) (k : ℕ) (x : Place)
    → slice_get xs k ≡ Some x → test x ≡ true → stages_that test [] (take k xs) ≡ as_list None
    → stages_that test [] (take (k + 1) xs) ≡ as_list (Some (stage_of (take k xs) x))
first test xs k x got e h =
    ap (stages_that test []) (taken xs k x got)
    ∙ that_more test [] (take k xs) x
    ∙ ap₂ (λ ns b. ns ++ (if b then stage_of (take k xs) x ∷ [] else [])) h e

-- a place that doesn't pass a test adds no stage to those of the places that do
pub no_one : (test : Place → Bool) (xs : List Place) (k : ℕ) (x : Place)
    → slice_get xs k ≡ Some x → test x ≡ false → stages_that test [] (take (k + 1) xs) ≡ stages_that test [] (take k xs)
no_one test xs k x got e =
    ap (stages_that test []) (taken xs k x got)
    ∙ that_more test [] (take k xs) x
    ∙ ap (λ (b : Bool). stages_that test [] (take k xs) ++ (if b then stage_of (take k xs) x ∷ [] else [])) e
    ∙ append-nil (stages_that test [] (take k xs))

-- at least as many places as there are, taken from the first on, are all of them
pub all_taken : (xs : List Place) (k : ℕ) → length xs ≤ k → take k xs ≡ xs
all_taken [] zero l = refl
all_taken [] (suc k) l = refl
all_taken (x ∷ xs) zero l = absurd (omega arith)
all_taken (x ∷ xs) (suc k) l = ap (λ ys. x ∷ ys) (all_taken xs k (omega arith))
