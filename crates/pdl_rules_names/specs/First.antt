-- The first place that defines a name.
use Rattle.std.specs.Prelude.{◌≡◌, ℕ, suc, Bool, false, List, [], ◌∷◌, nat_eq, nat_lt, bytes_eq, if◌then◌else◌, Option, Some, None, option_map, is_some}
use Rattle.std.specs.Cmp.Lexicographic.{pointwise}
use Rattle.std.specs.Map.{lookup}
use Rattle.indexmap.specs.IndexMap.{insert_entry}
use Rattle.pdl_rules.specs.Places.{Place}
use Rattle.pdl_rules.specs.Parts.{is_some_and}

-- names with numbers of places
abbrev pub Entries : Type 0
Entries = List (List ℕ × ℕ)

-- the number of the first place that passes a test
abbrev pub first_where : (Place → Bool) → List Place → Option ℕ
first_where test [] = None
first_where test (x ∷ xs) = if test x then Some 0 else option_map suc (first_where test xs)

-- the number that a name has
abbrev pub number_in : Entries → List ℕ → Option ℕ
number_in es x = lookup (pointwise nat_eq x) es

-- the entries with one more name, unless it is there or there is none
abbrev pub with_name : Entries → Option (List ℕ) → ℕ → Entries
with_name es None k = es
with_name es (Some x) k = if is_some (number_in es x) then es else insert_entry (pointwise nat_eq) es x k

-- each name has the number of the first of these places at which it is read
abbrev pub AreFirst : (Place → Option (List ℕ)) → List Place → Entries → Type 0
AreFirst read xs es = (x : List ℕ) → number_in es x ≡ first_where (λ d. is_some_and (bytes_eq x) (read d)) xs

-- whether there is a number, and it is below another
abbrev pub comes_before : Option ℕ → ℕ → Bool
comes_before None k = false
comes_before (Some i) k = nat_lt i k
