-- The stages in which locked memories are released, and what L8 asks with them.
use Rattle.std.specs.Prelude.{◌≡◌, ℕ, ◌-◌, ◌^◌, List, [], map, length, if◌then◌else◌, Option, Some, None}
use Rattle.pdl_semantics.specs.Tree.{Location, Pipe}
use Rattle.pdl_rules.specs.Places.{Place, Guard, places}
use Rattle.pdl_rules.specs.Locks.{is_locked}
use Rattle.pdl_rules.specs.Stages.{first_stage, releases_memory}
use Rattle.pdl_paths.specs.declared.place.Place as r_place
use Rattle.pdl_paths.specs.Actions.{location_at, place_view}
use Rattle.pdl_rules_stages.specs.Stages.{stages_in}
use Rattle.pdl_rules_stages.specs.PathBits.{HavePaths}

-- the stage of a locked memory's releases
abbrev pub last_of : Pipe → List ℕ → Option ℕ
last_of p m = if is_locked p.mems m then first_stage (releases_memory m) [] (places p) else None

-- the stage of the releases of a location's memory, if there is a location
abbrev pub last_for : Pipe → Option Location → Option ℕ
last_for p (Some l) = last_of p l.mem.name
last_for p None = None

-- the stage of the releases of the memory at a place, if there is a location
abbrev pub last_at : Pipe → Place → Option ℕ
last_at p x = last_for p (location_at x)

-- the guards, the path on which all are true, the stages and the last stages are those of the pipe with these guards and places
pub record AreOfPipe (p : Pipe) (guards : List Guard) (all : ℕ) (rows : List r_place.Place) (stages : List ℕ)
    (last : List (Option ℕ)) (gs : List Guard) (xs : List Place) : Type 0 where
  pub own : gs ≡ guards
  pub text : xs ≡ places p
  pub seen : xs ≡ map place_view rows
  pub bits : all ≡ 2 ^ length gs - 1
  pub paths : HavePaths gs rows
  pub by_text : stages ≡ stages_in xs
  pub released : last ≡ map (last_at p) xs
