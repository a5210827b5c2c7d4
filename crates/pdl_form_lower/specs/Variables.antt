-- The variables of a walk by number, with the table of all variables of the pipe.
use Rattle.std.specs.Prelude.{◌≡◌, ℕ, zero, suc, ◌≤◌, List, [], ◌∷◌, map, Option, Some, None, slice_get}
use Rattle.pdl_semantics.specs.Flatten.{Var, var_width}
use Rattle.pdl_rules_widths.specs.Variables.{number_among}
use Rattle.pdl_form_lower.specs.declared.vars.NumberedVariable.{NumberedVariable}
use Rattle.pdl_word.specs.Words.{widest}

-- the variables of a pipe, and those that a walk has defined so far
pub record Scope : Type 0 where
  pub table : List Var
  pub vars : List Var

-- the name of the variable at a place of the table
abbrev pub name_in : List Var → ℕ → List ℕ
name_in [] k = []
name_in (u ∷ us) zero = u.name
name_in (u ∷ us) (suc k) = name_in us k

-- the name of a variable that has this place in the table; a guard has none
abbrev pub name_at : List Var → Option ℕ → List ℕ
name_at us None = []
name_at us (Some k) = name_in us k

-- the variable that a variable of the program stands for
abbrev pub var_view : List Var → NumberedVariable → Var
var_view us v = record { name = name_at us v.place; width = v.width; advised = v.advised }

-- the variables that variables of the program stand for
abbrev pub vars_of : List Var → List NumberedVariable → List Var
vars_of us vs = map (var_view us) vs

-- a number, or this one where there is none
abbrev pub number_or : Option ℕ → ℕ → Option ℕ
number_or None n = Some n
number_or (Some m) n = Some m

-- the numbers, where the one at a place is this one unless there is one already
abbrev pub with_number : List (Option ℕ) → ℕ → ℕ → List (Option ℕ)
with_number [] k n = []
with_number (o ∷ os) zero n = number_or o n ∷ os
with_number (o ∷ os) (suc k) n = o ∷ with_number os k n

-- each variable of the table has the number of its name, and no width is over widest
pub record AreNumbered (us : List Var) (ns : List (Option ℕ)) (vs : List Var) : Type 0 where
  pub numbers : (x : List ℕ) (k : ℕ) → number_among us x ≡ Some k → slice_get ns k ≡ Some (number_among vs x)
  pub small : (x : List ℕ) → var_width vs x ≤ widest
