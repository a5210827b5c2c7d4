-- Whether a call stands before on a path, as S1 asks it.
use Rattle.std.proofs.Common.{◌≡◌, ◌∙◌, refl, sym, ap, Bool, true, ◌||◌, false, List, [], ◌∷◌, ◌++◌, filter}
use Rattle.std.specs.List.{list_any}
use Rattle.std.proofs.lemmas.List.Folds.{list_any-append}
use Rattle.std.proofs.Math.Bool.{or-false}
use Rattle.pdl_rules.specs.Places.{Place, Guard, on_path}
use Rattle.pdl_rules.specs.Calls.{is_call}
use Rattle.pdl_rules_on_paths.specs.Earlier.{earlier_same, earlier_more}

-- one place more on the path
any_more : (path : List Guard) (before : List Place) (x : Place) (b : Bool) → on_path path x ≡ true → is_call x ≡ b
    → list_any is_call (filter (on_path path) (before ++ x ∷ [])) ≡ (list_any is_call (filter (on_path path) before) || (b || false))
any_more path before x b is_on e =
    ap (list_any is_call) (earlier_more path before x is_on)
    ∙ list_any-append is_call (filter (on_path path) before) (x ∷ [])
    ∙ ap (λ c. list_any is_call (filter (on_path path) before) || (c || false)) e

or_some : (b : Bool) → (b || true) ≡ true
or_some true = refl
or_some false = refl

-- after a call on the path, one of the places on it calls
pub called : (path : List Guard) (before : List Place) (x : Place)
    → on_path path x ≡ true → is_call x ≡ true → true ≡ list_any is_call (filter (on_path path) (before ++ x ∷ []))
called path before x is_on e = sym (any_more path before x true is_on e ∙ or_some (list_any is_call (filter (on_path path) before)))

-- a place on the path that does not call leaves it as it was whether one of those before calls
pub uncalled : (path : List Guard) (before : List Place) (x : Place) (state : Bool) → on_path path x ≡ true → is_call x ≡ false
    → state ≡ list_any is_call (filter (on_path path) before) → state ≡ list_any is_call (filter (on_path path) (before ++ x ∷ []))
uncalled path before x state is_on e stands = stands ∙ sym (any_more path before x false is_on e ∙ or-false (list_any is_call (filter (on_path path) before)))

-- a place off the path leaves it as it was whether one of those on the path calls
pub skipped : (path : List Guard) (before : List Place) (x : Place) (state : Bool) → on_path path x ≡ false
    → state ≡ list_any is_call (filter (on_path path) before) → state ≡ list_any is_call (filter (on_path path) (before ++ x ∷ []))
skipped path before x state off stands = stands ∙ sym (ap (list_any is_call) (earlier_same path before x off))
