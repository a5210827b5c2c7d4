-- Numbers of locations and of memories.
use Rattle.std.specs.Prelude.{◌≡◌, ℕ, Bool, List, map, length, Option, Some, None, bytes_eq}
use Rattle.std.specs.List.{position_or_len}
use Rattle.pdl_semantics.specs.Tree.{Location}
use Rattle.pdl_rules.specs.Places.{Place}
use Rattle.pdl_rules.specs.Parts.{is_some_and}
use Rattle.pdl_rules.specs.Locks.{same_location}
use Rattle.pdl_paths.specs.declared.place.Place as r_place
use Rattle.pdl_paths.specs.Actions.{location_at, place_view}
use Rattle.pdl_locks.specs.declared.numbers.Keys.{Keys}
use Rattle.pdl_locks.specs.declared.numbers.Keys.TheVariants.{Locations, Memories}

-- whether two locations have one number
abbrev pub are_one : Keys → Location → Location → Bool
are_one Locations a b = same_location a b
are_one Memories a b = bytes_eq a.mem.name b.mem.name

-- whether the location, or its memory, stands at the place
abbrev pub is_at : Keys → Location → Place → Bool
is_at keys l x = is_some_and (λ m. are_one keys m l) (location_at x)

-- the number of the first of these places at which it stands; how many they are, where it stands at none
abbrev pub first_place : Keys → Location → List Place → ℕ
first_place keys l xs = position_or_len (is_at keys l) xs

-- the number of a location, where there is one; else how many places there are
abbrev pub first_of : Keys → Option Location → List Place → ℕ
first_of keys (Some l) xs = first_place keys l xs
first_of keys None xs = length xs

-- that of a place's own location
abbrev pub number_at : Keys → List Place → Place → ℕ
number_at keys xs x = first_of keys (location_at x) xs

-- the numbers are those of these places
pub record AreNumbered (keys : Keys) (places : List r_place.Place) (first : List ℕ) (xs : List Place) : Type 0 where
  pub own : xs ≡ map place_view places
  pub numbers : first ≡ map (number_at keys xs) xs
