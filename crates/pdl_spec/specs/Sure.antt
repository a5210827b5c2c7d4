-- What a path did, as S4 asks it: the uses of locations, and whether a barrier was passed.
use Rattle.std.proofs.Common.{◌≡◌, ◌∙◌, sym, ap, ℕ, Bool, ◌&&◌, false, nat_lt, List, [], ◌∷◌, ◌++◌, map, filter, Option}
use Rattle.std.specs.List.{list_any}
use Rattle.pdl_rules.specs.Places.{Place, Guard, on_path}
use Rattle.pdl_rules.specs.Parts.{is_some_and}
use Rattle.pdl_rules.specs.Stages.{stage_of}
use Rattle.pdl_rules.specs.Speculation.{is_barrier, releases_unsure}
use Rattle.pdl_paths.specs.declared.place.Place as r_place
use Rattle.pdl_paths.specs.Actions.{place_view}
use Rattle.pdl_rules_on_paths.specs.Earlier.{earlier_same}
use Rattle.pdl_rules_stages.specs.Stages.{stages_in}
use Rattle.pdl_locks.specs.declared.numbers.Keys.TheVariants.{Locations}
use Rattle.pdl_locks.specs.declared.uses.LocationUse as location
use Rattle.pdl_locks.specs.Numbers.{AreNumbered}
use Rattle.pdl_locks.specs.Uses.{AreKept, IsUsed}
use Rattle.pdl_locks.specs.PassedPlaces.{passed_by}

-- whether a stage is before the one that verifies
abbrev pub is_before : Option ℕ → ℕ → Bool
is_before verified s = is_some_and (λ v. nat_lt s v) verified

-- on this path, in a pipe that verifies in this stage
abbrev pub breaks_sure : Option ℕ → List Guard → List Place → Place → Bool
breaks_sure verified path before x = is_before verified (stage_of before x) && releases_unsure (filter (on_path path) before) x

-- the numbers and the stages are those of the places
pub record AreOfPlaces (rows : List r_place.Place) (first stages : List ℕ) (xs : List Place) : Type 0 where
  pub numbers : AreNumbered Locations rows first xs
  pub by_text : stages ≡ stages_in xs

-- the uses are those of the locations at these places, and the barrier says whether one stands among them
pub record IsSure (rows : List r_place.Place) (earlier : List Place) (uses : List location.LocationUse) (barrier : Bool) : Type 0 where
  pub kept : AreKept Locations IsUsed (map place_view rows) earlier uses
  pub passed : barrier ≡ list_any is_barrier earlier

-- a place that isn't on the path changes nothing
pub passed_over : (rows : List r_place.Place) (path : List Guard) (before : List Place) (x : Place)
    (uses : List location.LocationUse) (barrier : Bool)
    → on_path path x ≡ false → IsSure rows (filter (on_path path) before) uses barrier
    → IsSure rows (filter (on_path path) (before ++ x ∷ [])) uses barrier
passed_over rows path before x uses barrier off h = record {
  kept = passed_by Locations IsUsed (map place_view rows) path before x uses off h.kept;
  passed = h.passed ∙ sym (ap (list_any is_barrier) (earlier_same path before x off));
}
