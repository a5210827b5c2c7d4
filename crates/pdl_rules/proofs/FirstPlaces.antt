-- The first place of a kind.
use Rattle.std.proofs.Common.{◌≡◌, refl, ℕ, Bool, true, false, ◌||◌, List, [], ◌∷◌, ◌++◌, if◌then◌else◌, Option, Some, None, is_some}
use Rattle.std.specs.List.{list_any}
use Rattle.pdl_rules.specs.Places.{Place}
use Rattle.pdl_rules.specs.Stages.{stage_of, first_stage}

at : (b : Bool) (k : ℕ) (o : Option ℕ) (later : Bool) → is_some o ≡ later → is_some (if b then Some k else o) ≡ (b || later)
at true k o later e = refl
at false k o later e = e

-- a text has a first place of a kind just where it has one
pub first_somewhere : (test : Place → Bool) (before xs : List Place) → is_some (first_stage test before xs) ≡ list_any test xs
first_somewhere test before [] = refl
first_somewhere test before (x ∷ xs) =
    at (test x) (stage_of before x) (first_stage test (before ++ x ∷ []) xs) (list_any test xs) (first_somewhere test (before ++ x ∷ []) xs)
