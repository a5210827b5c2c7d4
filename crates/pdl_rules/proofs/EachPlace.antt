-- What holds of each place of a list, told of the places before it.
use Rattle.std.proofs.Common.{◌≡◌, refl, ap, List, [], ◌∷◌, ◌++◌, append_assoc, append-nil}
use Rattle.std.specs.Prelude.{⊤}
use Rattle.pdl_semantics.specs.Tree.{Pipe}
use Rattle.pdl_rules.specs.Places.{Place, End, StartClause}

-- each place of a list has a property, told of the places before it
abbrev pub Each : (List Place → Place → Type 0) → List Place → List Place → Type 0
Each P before [] = ⊤
Each P before (x ∷ xs) = P before x × Each P (before ++ x ∷ []) xs

-- what holds of a place wherever a list is split at it holds of each place of the list
pub each_from : (P : List Place → Place → Type 0) (xs before : List Place)
    → ((front : List Place) (x : Place) (later : List Place) → xs ≡ front ++ x ∷ later → P (before ++ front) x)
    → Each P before xs
each_from P [] before h = tt
each_from P (x ∷ xs) before h = (
  rw append-nil at (h [] x xs refl),
  each_from P xs (before ++ x ∷ []) (λ front y later e. rw append_assoc (h (x ∷ front) y later (ap (λ l. x ∷ l) e))),
)

-- what holds of each place of two lists in turn holds of each of the first
pub each_front : (P : List Place → Place → Type 0) (xs ys before : List Place) → Each P before (xs ++ ys) → Each P before xs
each_front P [] ys before h = tt
each_front P (x ∷ xs) ys before h = (h.0, each_front P xs ys (before ++ x ∷ []) h.1)

-- what holds of each place of two lists in turn holds of each of the second, with the first before it
pub each_back : (P : List Place → Place → Type 0) (xs ys before : List Place) → Each P before (xs ++ ys) → Each P (before ++ xs) ys
each_back P [] ys before h = rw append-nil h
each_back P (x ∷ xs) ys before h = rw append_assoc at (each_back P xs ys (before ++ x ∷ []) h.1)

-- the places after the statements
abbrev pub closing : Pipe → List Place
closing p = End p.end ∷ StartClause p.start ∷ []
