-- The lowest place that breaks a rule.
use Rattle.std.specs.Prelude.{◌≡◌, ℕ, ◌<◌, ◌≤◌, Bool, true, false, ◌&&◌, List, [], ◌∷◌, ◌++◌, take, slice_get, if◌then◌else◌, Option, Some, None, option_map}
use Rattle.std.specs.List.{list_any}
use Rattle.pdl_rules.specs.Places.{Place, Guard, line_of, on_path, choices}
use Rattle.pdl_rules.specs.Parts.{is_some_and}

-- the line of the first of these places that passes a test, which is asked of the places before it and of it
abbrev pub line_where : (List Place → Place → Bool) → List Place → List Place → Option ℕ
line_where test before [] = None
line_where test before (x ∷ xs) = if test before x then Some (line_of x) else line_where test (before ++ x ∷ []) xs

-- the line of the first of these places that passes a test of its own
abbrev pub first_line : (Place → Bool) → List Place → Option ℕ
first_line test [] = None
first_line test (x ∷ xs) = if test x then Some (line_of x) else first_line test xs

-- whether a place breaks a rule on this path; the rule is asked of the path, the places before it and of it
abbrev pub on_this : (List Guard → List Place → Place → Bool) → List Guard → List Place → Place → Bool
on_this breaks path before x = on_path path x && breaks path before x

-- whether a place breaks a rule on some path of these guards
abbrev pub on_some : (List Guard → List Place → Place → Bool) → List Guard → List Place → Place → Bool
on_some breaks gs before x = list_any (λ path. on_path path x && breaks path before x) (choices gs)

-- whether the k-th of these places passes a test
abbrev pub breaks_at : (List Place → Place → Bool) → List Place → ℕ → Bool
breaks_at test xs k = is_some_and (test (take k xs)) (slice_get xs k)

-- the line of the k-th place, if there is one
abbrev pub nth_line : List Place → ℕ → Option ℕ
nth_line xs k = option_map line_of (slice_get xs k)

-- the lowest number below an end that passes a test; the end, where none does
pub record IsLowest (test : ℕ → Bool) (end k : ℕ) : Type 0 where
  pub within : k ≤ end
  pub found : k < end → test k ≡ true
  pub others : (j : ℕ) → j < k → test j ≡ false
