-- A rule on its way along one path after another.
use Rattle.std.specs.Prelude.{◌≡◌, ℕ, ◌<◌, ◌≤◌, Bool, true, false, List, [], take, length, Option}
use Rattle.pdl_rules.specs.Places.{Place, Guard}
use Rattle.pdl_paths.specs.Masks.{path_of}
use Rattle.pdl_rules_on_paths.specs.Lowest.{line_where, on_this, on_some, breaks_at}

-- the line of the first place of a text that breaks a rule on some path of its guards
abbrev pub path_line : (List Guard → List Place → Place → Bool) → List Guard → List Place → Option ℕ
path_line breaks gs xs = line_where (on_some breaks gs) [] xs

-- whether the path with these bits breaks a rule at the k-th place
abbrev pub by_bits : (List Guard → List Place → Place → Bool) → List Guard → List Place → ℕ → ℕ → Bool
by_bits breaks gs xs bits k = breaks_at (on_this breaks (path_of gs bits)) xs k

-- the lowest place at which one of the paths with fewer bits breaks the rule; the end, where none does
pub record IsLowestSoFar (test : ℕ → ℕ → Bool) (paths end lowest : ℕ) : Type 0 where
  pub within : lowest ≤ end
  pub bits : ℕ
  pub found : lowest < end → test bits lowest ≡ true
  pub others : (b j : ℕ) → b < paths → j < lowest → test b j ≡ false

-- the lowest place at which one of the paths with fewer bits breaks this rule; the end, where none does
abbrev pub IsFound : (List Guard → List Place → Place → Bool) → List Guard → List Place → ℕ → ℕ → Type 0
IsFound breaks gs xs paths lowest = IsLowestSoFar (by_bits breaks gs xs) paths (length xs) lowest

-- on this path, after k places, none of them below the lowest breaks the rule; up to the lowest its state stands
pub record IsUnderWay (test : ℕ → ℕ → Bool) (Stands : Type 0) (path k end lowest : ℕ) : Type 0 where
  pub earlier : IsLowestSoFar test path end lowest
  pub passed : (j : ℕ) → j < k → j < lowest → test path j ≡ false
  pub state : k ≤ lowest → Stands

-- a rule under way on a path after k places, with what is to stand after these
abbrev pub IsOnPath : (List Guard → List Place → Place → Bool) → (List Guard → List Place → Type 0) → List Guard
    → List Place → ℕ → ℕ → ℕ → Type 0
IsOnPath breaks Stands gs xs bits k lowest =
    IsUnderWay (by_bits breaks gs xs) (Stands (path_of gs bits) (take k xs)) bits k (length xs) lowest
