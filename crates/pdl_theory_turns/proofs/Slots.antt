-- Lists of stages entry by entry, and lists the other way round.
use Rattle.std.proofs.Common.{◌≡◌, refl, ap₂, ℕ, suc, ◌≤◌, List, [], ◌∷◌, ◌++◌, arith}
use Rattle.pdl_semantics.specs.Flat.{Stage}
use Rattle.pdl_semantics.specs.Cycle.{for_stages}

-- lists with an entry for each stage from s on are equal where the entries are
pub stages_same : {X : Type 0} → (f g : ℕ → X) (s : ℕ) (xs : List Stage)
    → ((q : ℕ) → s ≤ q → f q ≡ g q) → for_stages f s xs ≡ for_stages g s xs
stages_same f g s [] h = refl
stages_same f g s (x ∷ xs) h = ap₂ (λ a l. a ∷ l) (h s (omega arith)) (stages_same f g (suc s) xs (λ q k. h q (omega arith)))

-- the items of a list, from the last one to the first
abbrev pub rev : {X : Type 0} → List X → List X
rev [] = []
rev (x ∷ xs) = rev xs ++ x ∷ []
