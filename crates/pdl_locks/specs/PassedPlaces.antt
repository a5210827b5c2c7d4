-- A place that isn't on the path.
use Rattle.std.proofs.Common.{◌≡◌, sym, subst, ℕ, false, List, [], ◌∷◌, ◌++◌, Option, filter}
use Rattle.pdl_semantics.specs.Tree.{Location}
use Rattle.pdl_rules.specs.Places.{Place, Guard, on_path}
use Rattle.pdl_rules_on_paths.specs.Earlier.{earlier_same}
use Rattle.pdl_locks.specs.declared.numbers.Keys.{Keys}
use Rattle.pdl_locks.specs.declared.numbers.Keys.TheVariants.{Locations, Memories}
use Rattle.pdl_locks.specs.declared.uses.LocationUse as location
use Rattle.pdl_locks.specs.Uses.{AreKept, AreTurns, IsFirst, IsUsed}

-- the uses stay right with a place that isn't on the path
pub passed_by : {T : Type 0} (keys : Keys) (Is : T → Location → List Place → Type 0) (all : List Place)
    (path : List Guard) (before : List Place) (x : Place) (uses : List T)
    → on_path path x ≡ false → AreKept keys Is all (filter (on_path path) before) uses
    → AreKept keys Is all (filter (on_path path) (before ++ x ∷ [])) uses
passed_by keys Is all path before x uses off h = subst (λ e. AreKept keys Is all e uses) (sym (earlier_same path before x off)) h

-- so do the turns
pub turns_pass : (all : List Place) (path : List Guard) (before : List Place) (x : Place) (uses : List location.LocationUse) (first : List (Option ℕ))
    → on_path path x ≡ false → AreTurns all (filter (on_path path) before) uses first
    → AreTurns all (filter (on_path path) (before ++ x ∷ [])) uses first
turns_pass all path before x uses first off h =
    (passed_by Locations IsUsed all path before x uses off h.0, passed_by Memories (IsFirst all) all path before x first off h.1)
