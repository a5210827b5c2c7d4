-- The stages of a text: its separators in order begin stages 1, 2, 3 and so on.
use Rattle.std.specs.Prelude.{◌≡◌, ℕ, suc, List, [], ◌∷◌, filter, if◌then◌else◌}
use Rattle.pdl_rules.specs.Places.{Place, Guard, Branch, on_path}
use Rattle.pdl_rules.specs.Limits.{is_separator}
use Rattle.pdl_rules.specs.Stages.{branches_of, are_outer, stage_in, next_on}

-- a separator, with the stage that it begins
pub record Begin : Type 0 where
  pub stage : ℕ
  pub at : Place

-- the separators among these places, where so many stages began before
abbrev pub begins : ℕ → List Place → List Begin
begins before [] = []
begins before (x ∷ xs) = if is_separator x then record { stage = suc before; at = x } ∷ begins (suc before) xs else begins before xs

-- the stage of the first of these separators, 0 where there is none
abbrev pub first_begun : List Begin → ℕ
first_begun [] = 0
first_begun (b ∷ bs) = b.stage

-- the stage of the last of them, and where there is none this one
abbrev pub last_begun : ℕ → List Begin → ℕ
last_begun s [] = s
last_begun s (b ∷ bs) = last_begun b.stage bs

-- the stage of what stands in these branches, after these places: the last one begun by a separator in whose branches it stands, or stage 0
abbrev pub BeginsLast : Type 0
BeginsLast = (before : List Place) (bs : List Branch)
    → stage_in before bs ≡ last_begun 0 (filter (λ b. are_outer (branches_of b.at) bs) (begins 0 before))

-- the next stage on a path, before these places: the first one begun by a separator on the path
abbrev pub BeginsNext : Type 0
BeginsNext = (path : List Guard) (begun : ℕ) (after : List Place)
    → next_on path begun after ≡ first_begun (filter (λ b. on_path path b.at) (begins begun after))
