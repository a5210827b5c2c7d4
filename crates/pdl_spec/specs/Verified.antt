-- What S2 is asked with.
use Rattle.std.specs.Prelude.{◌≡◌, ℕ, ◌-◌, ◌^◌, List, [], ◌∷◌, map, length, Option, Some, None}
use Rattle.pdl_semantics.specs.Tree.{Pipe}
use Rattle.pdl_rules.specs.Places.{Place, Guard, places}
use Rattle.pdl_paths.specs.declared.place.Place as r_place
use Rattle.pdl_paths.specs.Actions.{place_view}
use Rattle.pdl_rules_stages.specs.Stages.{stages_in}
use Rattle.pdl_rules_stages.specs.PathBits.{HavePaths}

-- the only one of some numbers
abbrev pub only : List ℕ → Option ℕ
only (n ∷ []) = Some n
only _ = None

-- the guards, the path on which all are true, and the stages are those of the pipe with these guards and places
pub record AreOfPipe (p : Pipe) (guards : List Guard) (all : ℕ) (rows : List r_place.Place) (stages : List ℕ) (gs : List Guard) (xs : List Place) : Type 0 where
  pub own : gs ≡ guards
  pub text : xs ≡ places p
  pub seen : xs ≡ map place_view rows
  pub bits : all ≡ 2 ^ length gs - 1
  pub paths : HavePaths gs rows
  pub by_text : stages ≡ stages_in xs
