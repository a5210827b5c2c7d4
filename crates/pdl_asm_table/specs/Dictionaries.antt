-- Values by name, of which the first definition holds.
use Rattle.std.specs.Prelude.{ℕ, List, [], ◌∷◌, ◌++◌, Option, is_some, bytes_eq, if◌then◌else◌}
use Rattle.std.specs.Map.{lookup}

-- the value that a name has, if it is defined
abbrev pub value_of : {T : Type 0} → List (List ℕ × T) → List ℕ → Option T
value_of entries name = lookup (bytes_eq name) entries

-- a definition more: of a name that is defined twice the first one holds
abbrev pub with_definition : {T : Type 0} → List (List ℕ × T) → List ℕ → T → List (List ℕ × T)
with_definition entries name value = if is_some (value_of entries name) then entries else entries ++ (name, value) ∷ []
