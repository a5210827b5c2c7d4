-- Variables as entries of a map.
use Rattle.std.specs.Prelude.{ℕ, suc, List, [], ◌∷◌, map, bytes_eq, if◌then◌else◌, Option, Some, None}
use Rattle.std.specs.Option.{option_map}
use Rattle.pdl_semantics.specs.Flatten.{Var}
use Rattle.pdl_rules_widths.specs.declared.variables.VariableType.{VariableType}

-- the variable of an entry: its name with its width, and whether it is advised
abbrev pub var_of : List ℕ × VariableType → Var
var_of e = record { name = e.0; width = e.1.width; advised = e.1.advised }

-- the variables of entries
abbrev pub vars_of : List (List ℕ × VariableType) → List Var
vars_of es = map var_of es

-- the width of a variable by its name, none where there is none
abbrev pub width_among : List Var → List ℕ → Option ℕ
width_among [] x = None
width_among (v ∷ vs) x = if bytes_eq v.name x then Some v.width else width_among vs x

-- the number of the first variable of this name, none where there is none
abbrev pub number_among : List Var → List ℕ → Option ℕ
number_among [] x = None
number_among (v ∷ vs) x = if bytes_eq v.name x then Some 0 else option_map suc (number_among vs x)
