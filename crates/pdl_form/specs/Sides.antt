-- The sides of a fork on which a stage stands, at most one.
use Rattle.std.specs.Prelude.{Bool, List, [], ◌∷◌, Option, Some, None}

-- a side as a list, if there is one
abbrev pub listed : Option Bool → List Bool
listed None = []
listed (Some b) = b ∷ []

-- the first of a list, if there is one
abbrev pub first_of : List Bool → Option Bool
first_of [] = None
first_of (b ∷ bs) = Some b
