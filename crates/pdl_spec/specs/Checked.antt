-- What S5 asks on a path.
use Rattle.std.proofs.Common.{◌≡◌, ◌∙◌, sym, ap, ℕ, Bool, ◌&&◌, not, false, List, [], ◌∷◌, ◌++◌, if◌then◌else◌, append-nil, Option}
use Rattle.pdl_rules.specs.Places.{Place, Guard, on_path}
use Rattle.pdl_rules.specs.Stages.{stage_of, stages_that}
use Rattle.pdl_rules.specs.Speculation.{needs_check, is_check, is_checked}
use Rattle.pdl_rules_stages.proofs.PlaceStages.{that_more}
use Rattle.pdl_spec.specs.Sure.{is_before}

-- a check on the path
abbrev pub is_check_on : List Guard → Place → Bool
is_check_on path y = on_path path y && is_check y

-- on this path, in a pipe that verifies in this stage
abbrev pub breaks_checked : Option ℕ → List Guard → List Place → Place → Bool
breaks_checked verified path before x = (needs_check x && is_before verified (stage_of before x)) && not (is_checked path before (stage_of before x))

-- a place that isn't on the path is no check there
pub unchecked : (path : List Guard) (before : List Place) (x : Place) (stages : List ℕ)
    → on_path path x ≡ false → stages ≡ stages_that (is_check_on path) [] before
    → stages ≡ stages_that (is_check_on path) [] (before ++ x ∷ [])
unchecked path before x stages off h =
    h ∙ sym (that_more (is_check_on path) [] before x
    ∙ ap (λ b. stages_that (is_check_on path) [] before ++ (if b && is_check x then stage_of before x ∷ [] else [])) off
    ∙ append-nil (stages_that (is_check_on path) [] before))
