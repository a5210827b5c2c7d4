-- How the rules on locks stand on a path.
use Rattle.std.specs.Prelude.{◌≡◌, ℕ, ◌+◌, Bool, false, List, ◌∷◌, map, filter, slice_get, Option, Some}
use Rattle.pdl_semantics.specs.Tree.{Pipe}
use Rattle.pdl_rules.specs.Places.{Place, Guard, on_path}
use Rattle.pdl_rules.specs.Locks as spec
use Rattle.pdl_rules.specs.Stages.{bound_late}
use Rattle.pdl_paths.specs.declared.place.Place as r_place
use Rattle.pdl_paths.specs.Actions.{place_view}
use Rattle.pdl_paths.specs.Masks.{path_of}
use Rattle.pdl_rules_stages.specs.PathBits.{IsPath}
use Rattle.pdl_rules_walk.specs.Course.{IsOnPath}
use Rattle.pdl_rules_walk.specs.Aside.{aside}
use Rattle.pdl_locks.specs.declared.numbers.Keys.TheVariants.{Locations, Memories}
use Rattle.pdl_locks.specs.declared.uses.LocationUse as location
use Rattle.pdl_locks.specs.declared.uses.MemoryUse as memory
use Rattle.pdl_locks.specs.declared.at_locations.LocationRule.{LocationRule}
use Rattle.pdl_locks.specs.declared.at_memories.MemoryRule.{MemoryRule}
use Rattle.pdl_locks.specs.RuleQuestions.{breaks_at_location, breaks_at_memory}
use Rattle.pdl_locks.specs.Uses.{AreKept, AreTurns, IsUsed, IsUsedMemory}
use Rattle.pdl_locks.specs.PassedPlaces.{passed_by, turns_pass}

-- what a rule on locations asks of a place on a path
abbrev pub at_location : Pipe → LocationRule → List Guard → List Place → Place → Bool
at_location p rule path before x = breaks_at_location rule p (filter (on_path path) before) x

-- what a rule on memories asks of a place on a path
abbrev pub of_memory : Pipe → MemoryRule → List Guard → List Place → Place → Bool
of_memory p rule path before x = breaks_at_memory rule p (filter (on_path path) before) x

-- a rule on locations after k places of a path, with the uses of its locations, and its lowest place so far
abbrev pub StandsAt : Pipe → List r_place.Place → LocationRule → List Guard → List Place → ℕ → ℕ → List location.LocationUse → ℕ → Type 0
StandsAt p rows rule gs xs bits k uses lowest =
    IsOnPath (at_location p rule) (λ path before. AreKept Locations IsUsed (map place_view rows) (filter (on_path path) before) uses) gs xs bits k lowest

-- a rule on memories after k places of a path, with the uses of its memories, and its lowest place so far
abbrev pub StandsOf : Pipe → List r_place.Place → MemoryRule → List Guard → List Place → ℕ → ℕ → List memory.MemoryUse → ℕ → Type 0
StandsOf p rows rule gs xs bits k uses lowest =
    IsOnPath (of_memory p rule) (λ path before. AreKept Memories IsUsedMemory (map place_view rows) (filter (on_path path) before) uses) gs xs bits k lowest

-- what L6 asks of a place on a path
abbrev pub in_turn : List Guard → List Place → Place → Bool
in_turn path before x = spec.is_not_written_once (filter (on_path path) before) x

-- L6 after k places of a path, with the uses of its locations and the first ones of its memories, and its lowest place so far
abbrev pub StandsInTurn : List r_place.Place → List Guard → List Place → ℕ → ℕ → List location.LocationUse → List (Option ℕ) → ℕ → Type 0
StandsInTurn rows gs xs bits k uses first lowest =
    IsOnPath in_turn (λ path before. AreTurns (map place_view rows) (filter (on_path path) before) uses first) gs xs bits k lowest

-- the rule on late reads after k places of a path, with the bits of that path, and its lowest place so far
abbrev pub StandsBound : Pipe → List Guard → List Guard → List Place → ℕ → ℕ → ℕ → ℕ → Type 0
StandsBound p guards gs xs bits k among lowest = IsOnPath (bound_late p) (λ path before. IsPath guards path among) gs xs bits k lowest

-- a place that isn't on the path changes nothing
pub aside_at : (p : Pipe) (rows : List r_place.Place) (rule : LocationRule) (gs : List Guard) (xs : List Place)
    (bits k : ℕ) (x : Place) (uses : List location.LocationUse) (lowest : ℕ)
    → slice_get xs k ≡ Some x → on_path (path_of gs bits) x ≡ false → StandsAt p rows rule gs xs bits k uses lowest
    → StandsAt p rows rule gs xs bits (k + 1) uses lowest
aside_at p rows rule gs xs bits k x uses lowest got off h =
    aside (at_location p rule) (λ path before. AreKept Locations IsUsed (map place_view rows) (filter (on_path path) before) uses) gs xs bits k lowest x
    (λ path before elsewhere kept. passed_by Locations IsUsed (map place_view rows) path before x uses elsewhere kept) got off h

-- a place that isn't on the path changes nothing for a rule on memories
pub aside_of : (p : Pipe) (rows : List r_place.Place) (rule : MemoryRule) (gs : List Guard) (xs : List Place) (bits k : ℕ)
    (x : Place) (uses : List memory.MemoryUse) (lowest : ℕ)
    → slice_get xs k ≡ Some x → on_path (path_of gs bits) x ≡ false → StandsOf p rows rule gs xs bits k uses lowest
    → StandsOf p rows rule gs xs bits (k + 1) uses lowest
aside_of p rows rule gs xs bits k x uses lowest got off h =
    aside (of_memory p rule) (λ path before. AreKept Memories IsUsedMemory (map place_view rows) (filter (on_path path) before) uses) gs xs bits k lowest x
    (λ path before elsewhere kept. passed_by Memories IsUsedMemory (map place_view rows) path before x uses elsewhere kept) got off h

-- a place that isn't on the path changes nothing for L6
pub aside_turn : (rows : List r_place.Place) (gs : List Guard) (xs : List Place) (bits k : ℕ)
    (x : Place) (uses : List location.LocationUse) (first : List (Option ℕ)) (lowest : ℕ)
    → slice_get xs k ≡ Some x → on_path (path_of gs bits) x ≡ false → StandsInTurn rows gs xs bits k uses first lowest
    → StandsInTurn rows gs xs bits (k + 1) uses first lowest
aside_turn rows gs xs bits k x uses first lowest got off h =
    aside in_turn (λ path before. AreTurns (map place_view rows) (filter (on_path path) before) uses first) gs xs bits k lowest x
    (λ path before elsewhere kept. turns_pass (map place_view rows) path before x uses first elsewhere kept) got off h

-- a place that isn't on the path changes nothing for the rule on late reads
pub aside_bound : (p : Pipe) (guards gs : List Guard) (xs : List Place) (bits k : ℕ) (x : Place) (among lowest : ℕ)
    → slice_get xs k ≡ Some x → on_path (path_of gs bits) x ≡ false → StandsBound p guards gs xs bits k among lowest
    → StandsBound p guards gs xs bits (k + 1) among lowest
aside_bound p guards gs xs bits k x among lowest got off h =
    aside (bound_late p) (λ path before. IsPath guards path among) gs xs bits k lowest x (λ path before elsewhere is. is) got off h
