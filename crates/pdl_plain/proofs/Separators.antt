-- The stages of a text by its separators.
use Rattle.std.proofs.Common.{◌≡◌, ℕ, suc, arith, refl, List, [], ◌∷◌}
use Rattle.std.specs.Prelude.{filter}
use Rattle.pdl_rules.specs.Places.{Place, Branch}
use Rattle.pdl_rules.specs.Stages.{branches_of, are_outer, stage_from}
use Rattle.pdl_plain.specs.StagesByText.{begins, last_begun, BeginsLast, BeginsNext}

last_from : (begun found : ℕ) (bs : List Branch) (xs : List Place)
    → stage_from begun found bs xs ≡ last_begun found (filter (λ b. are_outer (branches_of b.at) bs) (begins begun xs))
last_from begun found bs [] = refl
last_from begun found bs (x ∷ xs) =
    grind (arith, last_from begun found bs xs, last_from (suc begun) found bs xs, last_from (suc begun) (suc begun) bs xs)

-- the stage of a place is that of the last separator around it
pub last : BeginsLast
last before bs = last_from 0 0 bs before

-- the next stage on a path is that of the next separator on it
pub next : BeginsNext
next path begun [] = refl
next path begun (x ∷ xs) = grind (arith, next path begun xs, next path (suc begun) xs)
