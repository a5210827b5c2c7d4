-- The places before on a path.
use Rattle.std.proofs.Common.{◌≡◌, ◌∙◌, ap, true, false, cond, List, [], ◌∷◌, ◌++◌, filter, append-nil}
use Rattle.std.proofs.lemmas.List.Elements.{filter-append}
use Rattle.pdl_rules.specs.Places.{Place, Guard, on_path}

-- a place that isn't on the path is none of them
pub earlier_same : (path : List Guard) (before : List Place) (x : Place)
    → on_path path x ≡ false → filter (on_path path) (before ++ x ∷ []) ≡ filter (on_path path) before
earlier_same path before x off =
    filter-append (on_path path) before (x ∷ [])
    ∙ ap (λ b. filter (on_path path) before ++ cond b (x ∷ []) []) off
    ∙ append-nil (filter (on_path path) before)

-- one that is, is the last of them
pub earlier_more : (path : List Guard) (before : List Place) (x : Place)
    → on_path path x ≡ true → filter (on_path path) (before ++ x ∷ []) ≡ filter (on_path path) before ++ x ∷ []
earlier_more path before x is_on =
    filter-append (on_path path) before (x ∷ []) ∙ ap (λ b. filter (on_path path) before ++ cond b (x ∷ []) []) is_on
