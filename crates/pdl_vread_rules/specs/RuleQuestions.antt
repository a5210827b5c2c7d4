-- What a rule asks, place by place in the order of a text.
use Rattle.std.specs.Prelude.{◌≡◌, ℕ, Bool, List, [], ◌∷◌, cond, Option, Some, None, Result, Ok, Err}
use Rattle.pdl_vread_nets.specs.declared.passes.PassStop.{PassStop}
use Rattle.pdl_vread_nets.specs.declared.passes.PassStop.TheVariants.{Broken, NoMemory}

-- a line, and whether what stands there is right
pub record Asked : Type 0 where
  pub line : ℕ
  pub right : Bool

-- what is asked at a line, and whether it is right
abbrev pub asked : ℕ → Bool → Asked
asked line right = record { line = line; right = right }

-- the line of the first that is wrong
abbrev pub first_wrong : List Asked → Option ℕ
first_wrong [] = None
first_wrong (a ∷ rest) = cond a.right (first_wrong rest) (Some a.line)

-- what is asked of declarations and of what they stand for, pair by pair
abbrev pub both : {A B : Type 0} → (A → B → Asked) → List A → List B → List Asked
both ask (x ∷ xs) (y ∷ ys) = ask x y ∷ both ask xs ys
both ask [] _ = []
both ask (x ∷ xs) [] = []

-- an answer tells where the first wrong place is, or that there is none, unless memory ran out
abbrev pub Tells : Option ℕ → Result (Unit {0}) PassStop → Type 0
Tells wanted (Ok _) = wanted ≡ None
Tells wanted (Err (Broken line)) = wanted ≡ Some line
Tells wanted (Err NoMemory) = Unit {0}
